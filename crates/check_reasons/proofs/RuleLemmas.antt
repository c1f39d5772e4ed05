-- Which rule is the first that breaks, by what is legal.
use Rattle.std.proofs.Common.{◌≡◌, refl, Bool, true, false, ◌&&◌, not, ℕ, ◌%◌, ◌==◌, nat_le, Option, Some, None, is_some, if◌then◌else◌}
use Rattle.std.specs.Option.{option_and_then, option_or}
use Rattle.std.proofs.Math.Nat.{zero-mod}
use Rattle.std.proofs.lemmas.Bool.{eq-eqb}
use Rattle.rv_decode.specs.declared.extents.Eew.{Eew}
use Rattle.rv_decode.specs.declared.extents.Extent.{Extent}
use Rattle.rv_decode.specs.declared.extents.Extent.TheVariants.{Group, Mask, Single, Whole}
use Rattle.rv_decode.specs.declared.extents.Operand.{Operand}
use Rattle.rv_decode.specs.declared.extents.Operands.{Operands}
use Rattle.rv_decode.specs.declared.extents.Sharing.{Sharing}
use Rattle.rv_decode.specs.declared.instructions.Count.{Count}
use Rattle.vreg_groups.specs.declared.vector_type.Vtype.{Vtype}
use Rattle.vreg_groups.specs.Legality.{are_operands_legal, eew_bits, emul_eighths, group_count, is_destination_legal, is_group_legal, is_mask_legal, is_operand_legal}
use Rattle.vreg_groups.specs.Legality.{is_present_legal, is_source_legal, is_width, whole_count}
use Rattle.check_reasons.specs.declared.rules.Role.{Role}
use Rattle.check_reasons.specs.declared.rules.Role.TheVariants as role
use Rattle.check_reasons.specs.declared.rules.Rule.{Rule}
use Rattle.check_reasons.specs.declared.rules.Rule.TheVariants as rule
use Rattle.check_reasons.specs.Rules.{first_alone, group_rule, operand_rule, present_rule, rule_of, shared_rule}

-- ---- parts of the operands

only_source : (a b x : Bool) → a ≡ true → b ≡ true → (a && b && true && (x && true && true)) ≡ x
only_source true true true p q = refl
only_source true true false p q = refl
only_source true false x p q = cc
only_source false b x p q = cc

pub source_alone : (vtype : Option Vtype) (sharing : Sharing) (d : Operand) (s : Option Operand)
    → is_present_legal vtype (Some d) ≡ true → is_present_legal vtype s ≡ true
    → are_operands_legal vtype (record { destination = Some d; vs2 = s; vs1 = None; is_masked = false; sharing = sharing })
    ≡ is_source_legal vtype sharing d s
unfolding are_operands_legal is_destination_legal is_source_legal is_mask_legal
source_alone vtype sharing d s p q =
    only_source (is_operand_legal vtype d.extent d.first) (is_present_legal vtype s) (is_source_legal vtype sharing d s) p q

only_mask : (a x : Bool) → a ≡ true → (a && true && true && (true && true && x)) ≡ x
only_mask true x p = refl
only_mask false x p = cc

pub mask_alone : (vtype : Option Vtype) (masked : Bool) (sharing : Sharing) (d : Operand)
    → is_present_legal vtype (Some d) ≡ true
    → are_operands_legal vtype (record { destination = Some d; vs2 = None; vs1 = None; is_masked = masked; sharing = sharing })
    ≡ is_mask_legal vtype masked sharing d
unfolding are_operands_legal is_destination_legal is_source_legal
mask_alone vtype masked sharing d p =
    only_mask (is_operand_legal vtype d.extent d.first) (is_mask_legal vtype masked sharing d) p

-- ---- a group

abbrev first_of : Bool → Bool → Bool → Rule → Rule → Rule → Option Rule
first_of w s m a b c =
    option_or (if w then None else Some a) (option_or (if s then None else Some b) (if m then None else Some c))

at_width : (w s m : Bool) (a b c : Rule) → w ≡ false → Some a ≡ first_of w s m a b c
at_width false s m a b c p = refl
at_width true s m a b c p = cc

at_size : (w s z m : Bool) (a b c : Rule) → w ≡ true → z ≡ true → (w && s && z) ≡ false → Some b ≡ first_of w s m a b c
at_size true false z m a b c p q r = refl
at_size true true true m a b c p q r = cc
at_size true true false m a b c p q r = cc
at_size false s z m a b c p q r = cc

at_multiple : (w s z m : Bool) (a b c : Rule) → (w && s && z) ≡ true → (w && s && m) ≡ false → Some c ≡ first_of w s m a b c
at_multiple true true z false a b c p q = refl
at_multiple true true z true a b c p q = cc
at_multiple true false z m a b c p q = cc
at_multiple false s z m a b c p q = cc

at_none : (w s m : Bool) (a b c : Rule) → (w && s && m) ≡ true → None ≡ first_of w s m a b c
at_none true true true a b c p = refl
at_none true true false a b c p = cc
at_none true false m a b c p = cc
at_none false s m a b c p = cc

pub width_broken : (t : Vtype) (which : Role) (first : ℕ) (e : Eew) → is_operand_legal (Some t) (Single e) 0 ≡ false
    → Some (rule.Width which (eew_bits t.sew e)) ≡ group_rule t which first e
unfolding is_operand_legal group_rule
width_broken t which first e p =
    at_width (is_width (eew_bits t.sew e)) (nat_le (emul_eighths t e) 64) (first % group_count t e == 0)
    (rule.Width which (eew_bits t.sew e)) (rule.Size which (group_count t e)) (rule.Multiple which first (group_count t e)) p

pub size_broken : (t : Vtype) (which : Role) (first : ℕ) (e : Eew) → is_operand_legal (Some t) (Single e) 0 ≡ true
    → is_operand_legal (Some t) (Group e) 0 ≡ false → Some (rule.Size which (group_count t e)) ≡ group_rule t which first e
unfolding is_operand_legal group_rule
size_broken t which first e p q =
    at_size (is_width (eew_bits t.sew e)) (nat_le (emul_eighths t e) 64) (0 % group_count t e == 0) (first % group_count t e == 0)
    (rule.Width which (eew_bits t.sew e)) (rule.Size which (group_count t e)) (rule.Multiple which first (group_count t e)) p
    (eq-eqb (0 % group_count t e) 0 (zero-mod (group_count t e))) q

pub multiple_broken : (t : Vtype) (which : Role) (first : ℕ) (e : Eew) → is_operand_legal (Some t) (Group e) 0 ≡ true
    → is_group_legal t e first ≡ false → Some (rule.Multiple which first (group_count t e)) ≡ group_rule t which first e
unfolding is_operand_legal group_rule
multiple_broken t which first e p q =
    at_multiple (is_width (eew_bits t.sew e)) (nat_le (emul_eighths t e) 64) (0 % group_count t e == 0) (first % group_count t e == 0)
    (rule.Width which (eew_bits t.sew e)) (rule.Size which (group_count t e)) (rule.Multiple which first (group_count t e)) p q

none_broken : (t : Vtype) (which : Role) (first : ℕ) (e : Eew) → is_group_legal t e first ≡ true → None ≡ group_rule t which first e
unfolding group_rule
none_broken t which first e p =
    at_none (is_width (eew_bits t.sew e)) (nat_le (emul_eighths t e) 64) (first % group_count t e == 0)
    (rule.Width which (eew_bits t.sew e)) (rule.Size which (group_count t e)) (rule.Multiple which first (group_count t e)) p

-- ---- an operand by itself

broken_one : (m : Bool) (a : Rule) → m ≡ false → Some a ≡ (if m then None else Some a)
broken_one false a p = refl
broken_one true a p = cc

legal_one : (m : Bool) (a : Rule) → m ≡ true → None ≡ (if m then None else Some a)
legal_one true a p = refl
legal_one false a p = cc

pub whole_broken : (vtype : Option Vtype) (which : Role) (first : ℕ) (count : Count) → is_operand_legal vtype (Whole count) first ≡ false
    → Some (rule.Multiple which first (whole_count count)) ≡ operand_rule vtype which first (Whole count)
unfolding is_operand_legal operand_rule
whole_broken (Some t) which first count p = broken_one (first % whole_count count == 0) (rule.Multiple which first (whole_count count)) p
whole_broken None which first count p = broken_one (first % whole_count count == 0) (rule.Multiple which first (whole_count count)) p

legal_alone : (vtype : Option Vtype) (which : Role) (first : ℕ) (extent : Extent) → is_operand_legal vtype extent first ≡ true
    → None ≡ operand_rule vtype which first extent
unfolding is_operand_legal operand_rule
legal_alone (Some t) which first (Group e) p = none_broken t which first e p
legal_alone (Some t) which first (Single e) p = legal_one (is_width (eew_bits t.sew e)) (rule.Width which (eew_bits t.sew e)) p
legal_alone (Some t) which first Mask p = refl
legal_alone (Some t) which first (Whole count) p = legal_one (first % whole_count count == 0) (rule.Multiple which first (whole_count count)) p
legal_alone None which first (Group e) p = cc
legal_alone None which first (Single e) p = cc
legal_alone None which first Mask p = cc
legal_alone None which first (Whole count) p = legal_one (first % whole_count count == 0) (rule.Multiple which first (whole_count count)) p

pub present_alone : (vtype : Option Vtype) (which : Role) (operand : Option Operand) → is_present_legal vtype operand ≡ true
    → None ≡ present_rule vtype which operand
present_alone vtype which None p = refl
present_alone vtype which (Some o) p = legal_alone vtype which o.first o.extent p

-- ---- all of them

named_group : (w s m : Bool) (a b c : Rule) → is_some (first_of w s m a b c) ≡ not (w && s && m)
named_group true true true a b c = refl
named_group true true false a b c = refl
named_group true false m a b c = refl
named_group false s m a b c = refl

named_one : (m : Bool) (a : Rule) → is_some (if m then None else Some a) ≡ not m
named_one true a = refl
named_one false a = refl

named_alone : (vtype : Option Vtype) (which : Role) (first : ℕ) (extent : Extent)
    → is_some (operand_rule vtype which first extent) ≡ not (is_operand_legal vtype extent first)
unfolding is_operand_legal operand_rule group_rule
named_alone (Some t) which first (Group e) =
    named_group (is_width (eew_bits t.sew e)) (nat_le (emul_eighths t e) 64) (first % group_count t e == 0)
    (rule.Width which (eew_bits t.sew e)) (rule.Size which (group_count t e)) (rule.Multiple which first (group_count t e))
named_alone (Some t) which first (Single e) = named_one (is_width (eew_bits t.sew e)) (rule.Width which (eew_bits t.sew e))
named_alone (Some t) which first Mask = refl
named_alone (Some t) which first (Whole count) = named_one (first % whole_count count == 0) (rule.Multiple which first (whole_count count))
named_alone None which first (Group e) = refl
named_alone None which first (Single e) = refl
named_alone None which first Mask = refl
named_alone None which first (Whole count) = named_one (first % whole_count count == 0) (rule.Multiple which first (whole_count count))

named_present : (vtype : Option Vtype) (which : Role) (operand : Option Operand)
    → is_some (present_rule vtype which operand) ≡ not (is_present_legal vtype operand)
named_present vtype which None = refl
named_present vtype which (Some o) = named_alone vtype which o.first o.extent

named_three : (x y z : Bool) (a b c : Rule)
    → is_some (if not x then Some a else (if not y then Some b else (if not z then Some c else None))) ≡ not (x && y && z)
named_three true true true a b c = refl
named_three true true false a b c = refl
named_three true false z a b c = refl
named_three false y z a b c = refl

named_shared : (vtype : Option Vtype) (operands : Operands) (d : Option Operand)
    → is_some (option_and_then (shared_rule vtype operands) d) ≡ not (is_destination_legal vtype operands d)
unfolding shared_rule is_destination_legal
named_shared vtype operands None = refl
named_shared vtype operands (Some d) =
    named_three (is_source_legal vtype operands.sharing d operands.vs2) (is_source_legal vtype operands.sharing d operands.vs1)
    (is_mask_legal vtype operands.is_masked operands.sharing d) (rule.Overlap role.Vs2) (rule.Overlap role.Vs1) rule.Mask

named_all : (f g h k : Option Rule) (p q r s : Bool) → is_some f ≡ not p → is_some g ≡ not q → is_some h ≡ not r → is_some k ≡ not s
    → is_some (option_or (option_or f (option_or g h)) k) ≡ not (p && q && r && s)
named_all (Some a) g h k false q r s u v w x = refl
named_all (Some a) g h k true q r s u v w x = cc
named_all None g h k false q r s u v w x = cc
named_all None (Some a) h k true false r s u v w x = refl
named_all None (Some a) h k true true r s u v w x = cc
named_all None None h k true false r s u v w x = cc
named_all None None (Some a) k true true false s u v w x = refl
named_all None None (Some a) k true true true s u v w x = cc
named_all None None None k true true false s u v w x = cc
named_all None None None k true true true s u v w x = x

-- a rule is named exactly where the operands are not legal
pub rule_named : (vtype : Option Vtype) (operands : Operands) → is_some (rule_of vtype operands) ≡ not (are_operands_legal vtype operands)
unfolding rule_of first_alone are_operands_legal
rule_named vtype operands =
    named_all (present_rule vtype role.Destination operands.destination) (present_rule vtype role.Vs2 operands.vs2)
    (present_rule vtype role.Vs1 operands.vs1) (option_and_then (shared_rule vtype operands) operands.destination)
    (is_present_legal vtype operands.destination) (is_present_legal vtype operands.vs2) (is_present_legal vtype operands.vs1)
    (is_destination_legal vtype operands operands.destination)
    (named_present vtype role.Destination operands.destination) (named_present vtype role.Vs2 operands.vs2)
    (named_present vtype role.Vs1 operands.vs1) (named_shared vtype operands operands.destination)
