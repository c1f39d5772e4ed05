-- What the writes of instructions keep: each byte outside the registers of a legal destination.
use Rattle.std.proofs.Common.{◌≡◌, ◌<◌, ◌≤◌, ◌+◌, ◌%◌, ℕ, Bool, true, List, arith, refl, sym, ap, ◌∙◌, subst, Option, Some, None}
use Rattle.std.specs.Prelude.{◌==◌}
use Rattle.std.proofs.lemmas.Bool.Decides.{nat_tests}
use Rattle.rv_decode.specs.Needs.{access_operands, group, mask, needs_of_place, single, whole}
use Rattle.rv_decode.specs.declared.extents.Eew.{Eew}
use Rattle.rv_decode.specs.declared.extents.Eew.TheVariants.{Fixed, Same}
use Rattle.rv_decode.specs.declared.extents.Extent.{Extent}
use Rattle.rv_decode.specs.declared.extents.Extent.TheVariants.{Group, Single, Mask, Whole}
use Rattle.rv_decode.specs.declared.instructions.Count.{Count}
use Rattle.rv_decode.specs.declared.instructions.Count.TheVariants as number
use Rattle.rv_decode.specs.declared.instructions.Direction.TheVariants.{Load}
use Rattle.rv_decode.specs.declared.instructions.Addressing.{Addressing}
use Rattle.rv_decode.specs.declared.instructions.Addressing.TheVariants as place
use Rattle.vreg_groups.specs.Copies.{copied}
use Rattle.vreg_groups.specs.Group.{mask_bytes_of, whole_of, written}
use Rattle.vreg_groups.specs.Legality.{count_of, group_count, is_operand_legal, is_present_legal, whole_count}
use Rattle.vreg_groups.specs.VectorType.{type_in}
use Rattle.vreg_groups.specs.declared.policies.Policy.{Policy}
use Rattle.vreg_groups.specs.SizeLemmas.{group_ends}
use Rattle.vector_mem.specs.Transfers.{data_at}
use Rattle.vector_core.specs.KeepLaws.{AreRegisters, IsOutside}
use Rattle.vector_core.specs.Operands.{bits_written, results_written}
use Rattle.vector_core.specs.Permutations.{results_written_from}
use Rattle.vector_core.specs.Setup.{group_at}
use Rattle.vector_core.specs.Singles.{first_written}
use Rattle.vector_core.specs.Words.{Setup, Vtype}
use Rattle.vector_core.proofs.Kept.{Beside, IsKept, copy_kept, mask_kept, span_kept, unless_kept, write_kept}

-- ---- the registers of an operand

-- masks and single elements have one register, and whole registers are as many as they say
mask_size : (vtype : Option Vtype) → count_of vtype Mask ≡ 1
unfolding count_of
mask_size (Some t) = refl
mask_size None = refl

single_size : (vtype : Option Vtype) (eew : Eew) → count_of vtype (Single eew) ≡ 1
unfolding count_of
single_size (Some t) eew = refl
single_size None eew = refl

whole_size : (vtype : Option Vtype) (count : Count) → count_of vtype (Whole count) ≡ whole_count count
unfolding count_of
whole_size (Some t) count = refl
whole_size None count = refl

-- whole registers stand at a multiple of their number, and so end within the 32
whole_multiple : (vtype : Option Vtype) (count : Count) (first : ℕ) → is_operand_legal vtype (Whole count) first ≡ true
    → first % whole_count count ≡ 0
unfolding is_operand_legal
whole_multiple (Some t) count first legal = grind (arith, nat_tests)
whole_multiple None count first legal = grind (arith, nat_tests)

whole_ends : (count : Count) (first : ℕ) → first < 32 → first % whole_count count ≡ 0 → first + whole_count count ≤ 32
whole_ends number.One first below multiple = omega arith
whole_ends number.Two first below multiple = omega arith
whole_ends number.Four first below multiple = omega arith
whole_ends number.Eight first below multiple = omega arith

-- the registers of a legal operand exist
pub operand_ends : (vtype : Option Vtype) (extent : Extent) (first : ℕ) → first < 32
    → is_operand_legal vtype extent first ≡ true → first + count_of vtype extent ≤ 32
unfolding is_operand_legal count_of
operand_ends (Some t) (Group eew) first below legal = group_ends t eew first below (grind (arith, nat_tests))
operand_ends None (Group eew) first below legal = absurd (cc)
operand_ends vtype (Single eew) first below legal = omega (arith, single_size vtype eew)
operand_ends vtype Mask first below legal = omega (arith, mask_size vtype)
operand_ends vtype (Whole count) first below legal =
    omega (arith, whole_size vtype count, whole_ends count first below (whole_multiple vtype count first legal))

-- a group that is legal has the registers that it has under the type that its instruction works under
group_size : (vtype : Option Vtype) (eew : Eew) (first : ℕ) → is_operand_legal vtype (Group eew) first ≡ true
    → count_of vtype (Group eew) ≡ group_count (type_in vtype) eew
unfolding is_operand_legal count_of
group_size (Some t) eew first legal = refl
group_size None eew first legal = absurd (cc)

-- the bytes outside an operand are those beside its registers
at_operand : (vlenb : ℕ) (vtype : Option Vtype) (extent : Extent) (first n : ℕ) (file new : List ℕ) → count_of vtype extent ≡ n
    → IsKept vlenb (Beside vlenb first n) file new
    → IsKept vlenb (IsOutside vlenb vtype (Some (record { first = first; extent = extent }))) file new
at_operand vlenb vtype extent first n file new e kept =
    subst (λ m. IsKept vlenb (Beside vlenb first m) file new) (sym e) kept

-- ---- writes

module _ (vlenb : ℕ) (vtype : Option Vtype) (s : Setup) (file : List ℕ) (is : s.vtype ≡ type_in vtype) (r : AreRegisters vlenb file) where
  -- to a group
  group_kept : (eew : Eew) (vd : ℕ) (policy : Policy) (results : List ℕ) (active : List Bool) → vd < 32
      → is_operand_legal vtype (Group eew) vd ≡ true
      → IsKept vlenb (IsOutside vlenb vtype (group eew vd)) file (written vlenb (group_at s vd eew) policy results active file)
  group_kept eew vd policy results active below legal =
      let size : count_of vtype (Group eew) ≡ group_count s.vtype eew =
      group_size vtype eew vd legal ∙ ap (λ t. group_count t eew) (sym is) in
      let ends = operand_ends vtype (Group eew) vd below legal in
      at_operand vlenb vtype (Group eew) vd (group_count s.vtype eew) file _ size
      (span_kept vlenb (group_at s vd eew) policy results active file (omega arith) r)

  pub results_kept : (eew : Eew) (vd : ℕ) (masked : Bool) (results : List ℕ) → vd < 32
      → is_present_legal vtype (group eew vd) ≡ true
      → IsKept vlenb (IsOutside vlenb vtype (group eew vd)) file (results_written vlenb s (group_at s vd eew) masked results file)
  unfolding results_written
  results_kept eew vd masked results below legal =
      unless_kept vlenb _ (s.vl == 0) file _ r (group_kept eew vd _ results _ below legal)

  pub results_from_kept : (eew : Eew) (vd distance : ℕ) (masked : Bool) (results : List ℕ) → vd < 32
      → is_present_legal vtype (group eew vd) ≡ true
      → IsKept vlenb (IsOutside vlenb vtype (group eew vd)) file
      (results_written_from vlenb s (group_at s vd eew) distance masked results file)
  unfolding results_written_from
  results_from_kept eew vd distance masked results below legal =
      unless_kept vlenb _ (s.vl == 0) file _ r (group_kept eew vd _ results _ below legal)

  -- to a mask
  pub bits_kept : (vd : ℕ) (masked : Bool) (results : List Bool) → vd < 32
      → IsKept vlenb (IsOutside vlenb vtype (mask vd)) file (bits_written vlenb s vd masked results file)
  unfolding bits_written
  bits_kept vd masked results below =
      unless_kept vlenb _ (s.vl == 0) file _ r
      (at_operand vlenb vtype Mask vd 1 file _ (mask_size vtype) (mask_kept vlenb vd _ results _ file below r))

  -- to element 0 of a register
  pub first_kept : (eew : Eew) (size vd result : ℕ) → vd < 32
      → IsKept vlenb (IsOutside vlenb vtype (single eew vd)) file (first_written vlenb s size vd result file)
  unfolding first_written
  first_kept eew size vd result below =
      unless_kept vlenb _ (s.vl == 0) file _ r
      (at_operand vlenb vtype (Single eew) vd 1 file _ (single_size vtype eew) (write_kept vlenb size vd 1 _ _ _ file (omega arith) r))

  -- of whole registers
  pub whole_kept : (count : Count) (vd vs2 : ℕ) → vd < 32 → vs2 < 32 → is_present_legal vtype (whole count vd) ≡ true
      → is_present_legal vtype (whole count vs2) ≡ true
      → IsKept vlenb (IsOutside vlenb vtype (whole count vd)) file (copied vlenb vd vs2 (whole_count count) file)
  whole_kept count vd vs2 below from legal read =
      let e = whole_size vtype count in
      let to = operand_ends vtype (Whole count) vd below legal in
      let ends = operand_ends vtype (Whole count) vs2 from read in
      at_operand vlenb vtype (Whole count) vd (whole_count count) file _ e
      (copy_kept vlenb vd vs2 (whole_count count) file (omega arith) (omega arith) r)

  -- of a load
  pub loaded_kept : (where_to : Addressing) (values : ℕ) (policy : Policy) (results : List ℕ) (active : List Bool) → values < 32
      → is_present_legal vtype (needs_of_place where_to Load values).destination ≡ true
      → IsKept vlenb (IsOutside vlenb vtype (needs_of_place where_to Load values).destination) file
      (written vlenb (data_at vlenb s where_to values) policy results active file)
  unfolding needs_of_place access_operands data_at
  loaded_kept (place.Unit width masked) values policy results active below legal =
      group_kept (Fixed width) values policy results active below legal
  loaded_kept (place.Strided width rs2 masked) values policy results active below legal =
      group_kept (Fixed width) values policy results active below legal
  loaded_kept (place.Indexed width vs2 ordered masked) values policy results active below legal =
      group_kept Same values policy results active below legal
  loaded_kept place.Mask values policy results active below legal =
      at_operand vlenb vtype Mask values 1 file _ (mask_size vtype)
      (span_kept vlenb (mask_bytes_of s.vl values) policy results active file (omega arith) r)
  loaded_kept (place.Whole width count) values policy results active below legal =
      let size = whole_size vtype count in
      let ends = operand_ends vtype (Whole count) values below legal in
      at_operand vlenb vtype (Whole count) values (whole_count count) file _ size
      (span_kept vlenb (whole_of vlenb values count width) policy results active file (omega arith) r)
