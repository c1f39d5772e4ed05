-- Whether a vector instruction is legal, as far as vtype is known.
use Rattle.std.specs.Prelude.{ℕ, ◌||◌, Bool, true, false, if◌then◌else◌, Option, Some, None, Result, Ok, Err}
use Rattle.rv_decode.specs.declared.extents.Extent.{Extent}
use Rattle.rv_decode.specs.declared.extents.Extent.TheVariants.{Group, Single, Mask, Whole}
use Rattle.abs_transfer.specs.Words.{Operand, Insn, needs_of, is_legal}
use Rattle.vreg_groups.specs.VectorLength.{no_config}
use Rattle.abs_domain.specs.declared.why.Why.{Why}
use Rattle.abs_domain.specs.declared.why.Why.TheVariants.{IllegalWord, VtypeUnknown}

-- how far an operand reaches depends on vtype, unless it is of whole registers
abbrev pub extent_needs_vtype : Extent → Bool
extent_needs_vtype (Group eew) = true
extent_needs_vtype (Single eew) = true
extent_needs_vtype Mask = true
extent_needs_vtype (Whole count) = false

abbrev pub operand_needs_vtype : Option Operand → Bool
operand_needs_vtype None = false
operand_needs_vtype (Some operand) = extent_needs_vtype operand.extent

unfoldable pub needs_vtype : Insn → Bool
needs_vtype insn =
    operand_needs_vtype (needs_of insn).destination || operand_needs_vtype (needs_of insn).vs2
    || operand_needs_vtype (needs_of insn).vs1

-- Where vtype is not known, an instruction has to be legal at any; one that is legal where
-- vill is set is.
unfoldable pub legal_check : Option ℕ → Insn → Result (Unit {0}) Why
legal_check (Some bits) insn =
    if is_legal record { vtype = bits; vl = 0 } insn then Ok tt else Err IllegalWord
legal_check None insn =
    if is_legal no_config insn then Ok tt
    else (if needs_vtype insn then Err VtypeUnknown else Err IllegalWord)
