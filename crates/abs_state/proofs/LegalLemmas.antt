-- An instruction that is legal where vill is set is legal at any vtype: its operands are whole registers.
use Rattle.std.proofs.Common.{◌≡◌, ℕ, Bool, true, false, refl, Option, Some, None}
use Rattle.std.proofs.lemmas.Bool.{and_from, and_parts}
use Rattle.std.specs.Prelude.{if◌then◌else◌, Result, Ok, Err, IfSome}
use Rattle.rv_decode.specs.declared.extents.Extent.{Extent}
use Rattle.rv_decode.specs.declared.extents.Extent.TheVariants.{Group, Single, Mask, Whole}
use Rattle.rv_decode.specs.declared.extents.Operand.{Operand}
use Rattle.rv_decode.specs.declared.extents.Operands.{Operands}
use Rattle.rv_decode.specs.declared.extents.Sharing.{Sharing}
use Rattle.rv_decode.specs.declared.instructions.Insn.{Insn}
use Rattle.rv_decode.specs.Needs.{needs_of}
use Rattle.vreg_groups.specs.declared.vector_length.Vconfig.{Vconfig}
use Rattle.vreg_groups.specs.declared.vector_type.Vtype.{Vtype}
use Rattle.vreg_groups.specs.VectorType.{vtype_of}
use Rattle.vreg_groups.specs.Legality.{are_operands_legal, count_of, is_destination_legal, is_legal, is_mask_legal, is_operand_legal, is_pair_legal, is_present_legal, is_source_legal, registers_of}
use Rattle.abs_domain.specs.declared.why.Why.{Why}
use Rattle.abs_domain.specs.declared.why.Why.TheVariants.{IllegalWord, VtypeUnknown}
use Rattle.abs_transfer.specs.Facts.{known_type}
use Rattle.abs_transfer.specs.Legal.{legal_check, needs_vtype}
use Rattle.abs_state.specs.VectorLaws.{ChecksAreLegal}

-- ---- whole registers

operand_legal : (v : Option Vtype) (extent : Extent) (first : ℕ) → is_operand_legal None extent first ≡ true → is_operand_legal v extent first ≡ true
unfolding is_operand_legal
operand_legal v (Group eew) first e = cc
operand_legal v (Single eew) first e = cc
operand_legal v Mask first e = cc
operand_legal None (Whole count) first e = e
operand_legal (Some t) (Whole count) first e = e

present_legal : (v : Option Vtype) (o : Option Operand) → is_present_legal None o ≡ true → is_present_legal v o ≡ true
present_legal v None e = refl
present_legal v (Some operand) e = operand_legal v operand.extent operand.first e

same_count : (v w : Option Vtype) (extent : Extent) (first : ℕ) → is_operand_legal None extent first ≡ true → count_of v extent ≡ count_of w extent
unfolding is_operand_legal count_of
same_count v w (Group eew) first e = cc
same_count v w (Single eew) first e = cc
same_count v w Mask first e = cc
same_count None None (Whole count) first e = refl
same_count None (Some t) (Whole count) first e = refl
same_count (Some t) None (Whole count) first e = refl
same_count (Some t) (Some u) (Whole count) first e = refl

-- any source goes with a destination of whole registers
pair_legal : (v : Option Vtype) (sharing : Sharing) (extent : Extent) (first : ℕ) (source : Operand) → is_operand_legal None extent first ≡ true
    → is_pair_legal v sharing (record { first = first; extent = extent }) source ≡ true
unfolding is_operand_legal is_pair_legal
pair_legal v sharing (Group eew) first source e = cc
pair_legal v sharing (Single eew) first source e = cc
pair_legal v sharing Mask first source e = cc
pair_legal v sharing (Whole count) first source e = refl

source_legal : (v : Option Vtype) (sharing : Sharing) (d : Operand) (source : Option Operand) → is_operand_legal None d.extent d.first ≡ true
    → is_source_legal v sharing d source ≡ true
unfolding is_source_legal
source_legal v sharing d None e = refl
source_legal v sharing d (Some source) e = pair_legal v sharing d.extent d.first source e

mask_legal : (v : Option Vtype) (masked : Bool) (sharing : Sharing) (d : Operand) → is_operand_legal None d.extent d.first ≡ true
    → is_mask_legal None masked sharing d ≡ true → is_mask_legal v masked sharing d ≡ true
unfolding is_mask_legal registers_of
mask_legal v masked sharing d e f = rw (same_count v None d.extent d.first e) f

destination_legal : (v : Option Vtype) (operands : Operands) (o : Option Operand) → is_present_legal None o ≡ true
    → is_destination_legal None operands o ≡ true → is_destination_legal v operands o ≡ true
unfolding is_destination_legal
destination_legal v operands None e f = refl
destination_legal v operands (Some d) e f =
    let parts = and_parts _ _ f in
    and_from _ _
    (and_from _ _ (source_legal v operands.sharing d operands.vs2 e) (source_legal v operands.sharing d operands.vs1 e))
    (mask_legal v operands.is_masked operands.sharing d e parts.1)

operands_legal : (v : Option Vtype) (operands : Operands) → are_operands_legal None operands ≡ true → are_operands_legal v operands ≡ true
unfolding are_operands_legal
operands_legal v operands f =
    let parts = and_parts _ _ f in
    let more = and_parts _ _ parts.0 in
    let rest = and_parts _ _ more.0 in
    and_from _ _
    (and_from _ _ (and_from _ _ (present_legal v operands.destination rest.0) (present_legal v operands.vs2 rest.1))
    (present_legal v operands.vs1 more.1))
    (destination_legal v operands operands.destination rest.0 parts.1)

destination_whole : (operands : Operands) → are_operands_legal None operands ≡ true → is_present_legal None operands.destination ≡ true
unfolding are_operands_legal
destination_whole operands f = (and_parts _ _ (and_parts _ _ (and_parts _ _ f).0).0).0

whole_count_same : (v : Option Vtype) (o : Option Operand) → is_present_legal None o ≡ true → IfSome o (λ d. count_of None d.extent ≡ count_of v d.extent)
whole_count_same v None e = tt
whole_count_same v (Some d) e = same_count None v d.extent d.first e

-- ---- instructions

abbrev done : Result (Unit {0}) Why
done = Ok tt

or_error : (t : Bool) (why : Why) → (if t then done else Err why) ≡ done → t ≡ true
or_error true why e = refl
or_error false why e = cc

or_either : (t b : Bool) (why other : Why) → (if t then done else (if b then Err why else Err other)) ≡ done → t ≡ true
or_either true b why other e = refl
or_either false true why other e = cc
or_either false false why other e = cc

no_legal : (insn : Insn) → legal_check None insn ≡ Ok tt → are_operands_legal None (needs_of insn) ≡ true
unfolding legal_check is_legal vtype_of
no_legal insn e = or_either (are_operands_legal None (needs_of insn)) (needs_vtype insn) VtypeUnknown IllegalWord e

known_legal : (bits : ℕ) (insn : Insn) → legal_check (Some bits) insn ≡ Ok tt → are_operands_legal (vtype_of bits) (needs_of insn) ≡ true
unfolding legal_check is_legal
known_legal bits insn e = or_error (are_operands_legal (vtype_of bits) (needs_of insn)) IllegalWord e

pub check_legal : ChecksAreLegal
unfolding is_legal
check_legal None insn config k e = operands_legal (vtype_of config.vtype) (needs_of insn) (no_legal insn e)
check_legal (Some bits) insn config k e = rw k (known_legal bits insn e)

-- how far an instruction's destination reaches, by what is known of vtype
pub counts_known : (vtype : Option ℕ) (insn : Insn) (config : Vconfig) → IfSome vtype (λ t. config.vtype ≡ t) → legal_check vtype insn ≡ Ok tt
    → IfSome (needs_of insn).destination (λ d. count_of (known_type vtype) d.extent ≡ count_of (vtype_of config.vtype) d.extent)
counts_known (Some bits) insn config k e = by_destination (needs_of insn).destination
  where
    by_destination : (o : Option Operand) → IfSome o (λ d. count_of (vtype_of bits) d.extent ≡ count_of (vtype_of config.vtype) d.extent)
    by_destination None = tt
    by_destination (Some d) = rw k refl
counts_known None insn config k e = whole_count_same (vtype_of config.vtype) (needs_of insn).destination (destination_whole (needs_of insn) (no_legal insn e))
