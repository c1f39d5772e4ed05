-- Where the operands of a load or store stand among those that legality has tested.
use Rattle.std.proofs.Common.{◌≡◌, ℕ, ◌+◌, ◌≤◌, Bool, false, None, subst}
use Rattle.rv_decode.specs.declared.extents.Eew.{Eew}
use Rattle.rv_decode.specs.declared.extents.Eew.TheVariants.{Fixed, Same}
use Rattle.rv_decode.specs.declared.instructions.Count.{Count}
use Rattle.rv_decode.specs.declared.instructions.VMem as mem
use Rattle.rv_decode.specs.declared.instructions.Direction.{Direction}
use Rattle.rv_decode.specs.declared.instructions.Direction.TheVariants.{Load, Store}
use Rattle.rv_decode.specs.declared.instructions.Addressing.{Addressing}
use Rattle.rv_decode.specs.declared.instructions.Addressing.TheVariants.{Unit, Strided, Indexed, Whole}
use Rattle.rv_decode.specs.declared.instructions.Width.{Width}
use Rattle.rv_decode.specs.Needs.{needs_of_access, needs_of_place, access_operands, group, whole}
use Rattle.std.specs.Prelude.{Option}
use Rattle.rv_decode.specs.declared.extents.Operand.{Operand}
use Rattle.vreg_groups.specs.Group.{IsGroupInside}
use Rattle.vreg_groups.specs.Legality.{AreAllInside, count_of, whole_count}
use Rattle.vreg_groups.specs.declared.vector_type.Vtype.{Vtype}

-- a load's data is its destination, a store's stands in vs1
data_inside : (t : Vtype) (direction : Direction) (values : ℕ) (eew : Eew) (vs2 : Option Operand) (masked : Bool) →
    AreAllInside t (access_operands direction (group eew values) vs2 masked) → IsGroupInside t values eew
unfolding access_operands
data_inside t Load values eew vs2 masked h = h.destination
data_inside t Store values eew vs2 masked h = h.vs1

indices_are_inside : (t : Vtype) (direction : Direction) (values : Option Operand) (eew : Eew) (vs2 : ℕ) (masked : Bool) →
    AreAllInside t (access_operands direction values (group eew vs2) masked) → IsGroupInside t vs2 eew
unfolding access_operands
indices_are_inside t Load values eew vs2 masked h = h.vs2
indices_are_inside t Store values eew vs2 masked h = h.vs2

whole_ends : (t : Vtype) (direction : Direction) (values : ℕ) (count : Count) →
    AreAllInside t (access_operands direction (whole count values) None false) → values + whole_count count ≤ 32
unfolding access_operands count_of
whole_ends t Load values count h = h.destination.registers
whole_ends t Store values count h = h.vs1.registers

at_place : (t : Vtype) (m : mem.VMem) (place : Addressing) → m.place ≡ place → AreAllInside t (needs_of_access m) →
    AreAllInside t (needs_of_place place m.direction m.values)
unfolding needs_of_access
at_place t m place is h = subst (λ (p : Addressing). AreAllInside t (needs_of_place p m.direction m.values)) is h

pub unit_inside : (t : Vtype) (m : mem.VMem) (width : Width) (masked : Bool) → m.place ≡ Unit width masked →
    AreAllInside t (needs_of_access m) → IsGroupInside t m.values (Fixed width)
unfolding needs_of_place
unit_inside t m width masked is h = data_inside t m.direction m.values (Fixed width) _ _ (at_place t m _ is h)

pub strided_inside : (t : Vtype) (m : mem.VMem) (width : Width) (rs2 : ℕ) (masked : Bool) → m.place ≡ Strided width rs2 masked →
    AreAllInside t (needs_of_access m) → IsGroupInside t m.values (Fixed width)
unfolding needs_of_place
strided_inside t m width rs2 masked is h = data_inside t m.direction m.values (Fixed width) _ _ (at_place t m _ is h)

pub indexed_inside : (t : Vtype) (m : mem.VMem) (width : Width) (vs2 : ℕ) (ordered masked : Bool) → m.place ≡ Indexed width vs2 ordered masked →
    AreAllInside t (needs_of_access m) → IsGroupInside t m.values Same
unfolding needs_of_place
indexed_inside t m width vs2 ordered masked is h = data_inside t m.direction m.values Same _ _ (at_place t m _ is h)

pub indices_inside : (t : Vtype) (m : mem.VMem) (width : Width) (vs2 : ℕ) (ordered masked : Bool) → m.place ≡ Indexed width vs2 ordered masked →
    AreAllInside t (needs_of_access m) → IsGroupInside t vs2 (Fixed width)
unfolding needs_of_place
indices_inside t m width vs2 ordered masked is h = indices_are_inside t m.direction _ (Fixed width) vs2 _ (at_place t m _ is h)

pub whole_inside : (t : Vtype) (m : mem.VMem) (width : Width) (count : Count) → m.place ≡ Whole width count →
    AreAllInside t (needs_of_access m) → m.values + whole_count count ≤ 32
unfolding needs_of_place
whole_inside t m width count is h = whole_ends t m.direction m.values count (at_place t m _ is h)
