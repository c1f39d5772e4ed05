-- Which rule on operands in vector registers an instruction breaks, and the words for it.
use Rattle.std.specs.Prelude.{◌≡◌, Bool, true, false, not, ℕ, ◌==◌, ◌%◌, ◌++◌, nat_le, List, codes, Option, Some, None, if◌then◌else◌}
use Rattle.std.specs.Fmt.{decimal}
use Rattle.std.specs.Option.{option_and_then, option_or}
use Rattle.rv_decode.specs.declared.extents.Eew.{Eew}
use Rattle.rv_decode.specs.declared.extents.Extent.{Extent}
use Rattle.rv_decode.specs.declared.extents.Extent.TheVariants.{Group, Mask, Single, Whole}
use Rattle.rv_decode.specs.declared.extents.Operand.{Operand}
use Rattle.rv_decode.specs.declared.extents.Operands.{Operands}
use Rattle.vreg_groups.specs.Legality.{eew_bits, emul_eighths, group_count, is_mask_legal, is_present_legal, is_source_legal, is_width, whole_count}
use Rattle.vreg_groups.specs.declared.vector_type.Vtype.{Vtype}
use Rattle.check_reasons.specs.declared.rules.Role.{Role}
use Rattle.check_reasons.specs.declared.rules.Role.TheVariants as role
use Rattle.check_reasons.specs.declared.rules.Rule.{Rule}
use Rattle.check_reasons.specs.declared.rules.Rule.TheVariants as rule

-- ---- what a reason holds

-- the operand's first register is at a multiple of how many it has
abbrev pub multiple_rule : Role → ℕ → ℕ → Option Rule
multiple_rule which first registers =
    if first % registers == 0 then None else Some (rule.Multiple which first registers)

-- EEW is 8, 16 or 32
abbrev pub width_rule : Role → ℕ → Option Rule
width_rule which bits = if is_width bits then None else Some (rule.Width which bits)

-- EMUL is at most 8
abbrev pub size_rule : Role → Vtype → Eew → Option Rule
size_rule which t eew =
    if nat_le (emul_eighths t eew) 64 then None else Some (rule.Size which (group_count t eew))

-- the first rule that a group breaks, if it breaks one
unfoldable pub group_rule : Vtype → Role → ℕ → Eew → Option Rule
group_rule t which first eew =
    option_or (width_rule which (eew_bits t.sew eew))
    (option_or (size_rule which t eew) (multiple_rule which first (group_count t eew)))

-- The same of an operand. With vill set only whole registers are legal; a mask may stand in any.
unfoldable pub operand_rule : Option Vtype → Role → ℕ → Extent → Option Rule
operand_rule (Some t) which first (Group eew) = group_rule t which first eew
operand_rule (Some t) which first (Single eew) = width_rule which (eew_bits t.sew eew)
operand_rule (Some t) which first Mask = None
operand_rule vtype which first (Whole count) = multiple_rule which first (whole_count count)
operand_rule None which first extent = Some rule.VectorType

abbrev pub present_rule : Option Vtype → Role → Option Operand → Option Rule
present_rule vtype which operand =
    option_and_then (λ o. operand_rule vtype which o.first o.extent) operand

-- the first rule that an operand breaks by itself
unfoldable pub first_alone : Option Vtype → Operands → Option Rule
first_alone vtype operands =
    option_or (present_rule vtype role.Destination operands.destination)
    (option_or (present_rule vtype role.Vs2 operands.vs2)
    (present_rule vtype role.Vs1 operands.vs1))

-- each operand is legal by itself
pub record AreLegalAlone (vtype : Option Vtype) (operands : Operands) : Type 0 where
  pub destination : is_present_legal vtype operands.destination ≡ true
  pub vs2 : is_present_legal vtype operands.vs2 ≡ true
  pub vs1 : is_present_legal vtype operands.vs1 ≡ true

-- what a destination shares with the sources, and with the mask
unfoldable pub shared_rule : Option Vtype → Operands → Operand → Option Rule
shared_rule vtype operands destination =
    if not (is_source_legal vtype operands.sharing destination operands.vs2)
    then Some (rule.Overlap role.Vs2)
    else (if not (is_source_legal vtype operands.sharing destination operands.vs1)
    then Some (rule.Overlap role.Vs1)
    else (if not (is_mask_legal vtype operands.is_masked operands.sharing destination)
    then Some rule.Mask else None))

-- the first rule that operands break under a vector type, None with vill set: by themselves, then
-- the destination beside the sources and the mask
unfoldable pub rule_of : Option Vtype → Operands → Option Rule
rule_of vtype operands =
    option_or (first_alone vtype operands)
    (option_and_then (shared_rule vtype operands) operands.destination)

-- ---- the words

-- the third operand, which is the data of a store
abbrev pub third_name : Bool → List ℕ
third_name true = codes "vs3"
third_name false = codes "vs1"

abbrev pub role_text : Role → Bool → List ℕ
role_text role.Destination is_access = codes "vd"
role_text role.Vs2 is_access = codes "vs2"
role_text role.Vs1 is_access = third_name is_access

abbrev pub multiple_text : List ℕ → ℕ → ℕ → List ℕ
multiple_text name first registers = name ++ (codes " at a multiple of its " ++ (decimal registers
    ++ (codes " registers, not at v" ++ decimal first)))

-- what a rule wants of the operands of a load or store, or of another instruction
unfoldable pub wish_text : Rule → Bool → List ℕ
wish_text rule.VectorType is_access = codes "a vector type"
wish_text (rule.Width which bits) is_access = codes "elements of 8 to 32 bits in "
    ++ (role_text which is_access ++ (codes ", which has " ++ decimal bits))
wish_text (rule.Size which registers) is_access = codes "at most 8 registers in "
    ++ (role_text which is_access ++ (codes ", which has " ++ decimal registers))
wish_text (rule.Multiple which first registers) is_access =
    multiple_text (role_text which is_access) first registers
wish_text (rule.Overlap which) is_access = codes "vd apart from " ++ role_text which is_access
wish_text rule.Mask is_access = codes "vd apart from the mask v0"
