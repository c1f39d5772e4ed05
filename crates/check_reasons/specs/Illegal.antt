-- Why a word is not legal under what vtype holds, and the words for it.
use Rattle.std.specs.Prelude.{Bool, true, false, ℕ, ◌==◌, ◌++◌, List, [], codes, Option, Some, None, option_map, if◌then◌else◌}
use Rattle.std.specs.Fmt.{decimal}
use Rattle.rv_decode.specs.Needs.{needs_of}
use Rattle.rv_decode.specs.declared.extents.Operand.{Operand}
use Rattle.rv_decode.specs.declared.instructions.Insn.{Insn}
use Rattle.rv_decode.specs.declared.instructions.Insn.TheVariants as insn
use Rattle.vreg_groups.specs.Legality.{count_of, element_bits}
use Rattle.vreg_groups.specs.declared.vector_type.Vtype.{Vtype}
use Rattle.check_reasons.specs.Rules.{rule_of, third_name, wish_text}
use Rattle.check_reasons.specs.Vtypes.{held_text, vtype_in}
use Rattle.check_reasons.specs.declared.illegal.Group.{Group}
use Rattle.check_reasons.specs.declared.illegal.Illegal.{Illegal}
use Rattle.check_reasons.specs.declared.rules.Rule.{Rule}
use Rattle.check_reasons.specs.declared.vtypes.HeldVtype.{HeldVtype}

-- ---- what a reason holds

-- the registers of an operand, and the width of its elements under a type that is supported
abbrev pub group_of : Option Vtype → Operand → Group
group_of vtype operand = record {
  first = operand.first;
  registers = count_of vtype operand.extent;
  bits = option_map (λ t. element_bits t operand.extent) vtype;
}

-- a vector load or store, whose data is no vs1
abbrev pub is_access : Insn → Bool
is_access (insn.VMem i) = true
is_access (insn.Scalar i) = false
is_access (insn.Csr i) = false
is_access (insn.VSet i) = false
is_access (insn.VArith i) = false
is_access (insn.VMask i) = false
is_access (insn.VPerm i) = false
is_access (insn.VReduce i) = false
is_access (insn.VMove i) = false

-- an instruction's operands in vector registers under what vtype holds, and the rule that they
-- break
abbrev pub illegal_in : HeldVtype → Insn → Illegal
illegal_in vtype insn = record {
  vtype = vtype;
  destination = option_map (group_of (vtype_in vtype)) (needs_of insn).destination;
  vs2 = option_map (group_of (vtype_in vtype)) (needs_of insn).vs2;
  vs1 = option_map (group_of (vtype_in vtype)) (needs_of insn).vs1;
  is_masked = (needs_of insn).is_masked;
  is_access = is_access insn;
  rule = rule_of (vtype_in vtype) (needs_of insn);
}

-- ---- the words

unfoldable pub registers_text : ℕ → List ℕ
registers_text n = if n == 1 then codes "1 register" else decimal n ++ codes " registers"

unfoldable pub width_text : ℕ → List ℕ
width_text n = if n == 1 then codes "1 bit" else decimal n ++ codes " bits"

abbrev pub elements_text : Option ℕ → List ℕ
elements_text None = []
elements_text (Some bits) = codes ", elements of " ++ width_text bits

abbrev pub group_line : List ℕ → Option Group → List ℕ
group_line name None = []
group_line name (Some group) = codes "  " ++ (name ++ (codes ": " ++ (registers_text group.registers
    ++ (codes " from v" ++ (decimal group.first ++ (codes " on" ++ (elements_text group.bits
    ++ codes "\n")))))))

abbrev pub mask_line : Bool → List ℕ
mask_line true = codes "  masked by v0\n"
mask_line false = []

abbrev pub vtype_line : HeldVtype → List ℕ
vtype_line vtype = codes "  known: " ++ (held_text vtype ++ codes "\n")

abbrev pub legal_lines : List ℕ
legal_lines = codes "  wanted: elements of 8 to 32 bits, in at most 8 registers from a multiple of "
    ++ codes "their number on\n  wanted: vd apart from sources of another width, and from a mask\n"

-- what is wanted of the operands of a load or store, or of another instruction
abbrev pub wanted_lines : Option Rule → Bool → List ℕ
wanted_lines None is_access = legal_lines
wanted_lines (Some rule) is_access =
    codes "  wanted: " ++ (wish_text rule is_access ++ codes "\n")

-- the lines of a word that is not legal
unfoldable pub illegal_text : Illegal → List ℕ
illegal_text i = vtype_line i.vtype ++ (group_line (codes "vd") i.destination
    ++ (group_line (codes "vs2") i.vs2 ++ (group_line (third_name i.is_access) i.vs1
    ++ (mask_line i.is_masked ++ wanted_lines i.rule i.is_access))))
