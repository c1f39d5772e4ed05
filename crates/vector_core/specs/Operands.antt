-- What vector instructions read from the registers and write to them ("Vector Instruction
-- Formats"). `file` is the registers' bytes; the body's elements, and the results for them, are a
-- list.
use Rattle.std.specs.Prelude.{ℕ, ◌==◌, Bool, List, replicate, if◌then◌else◌}
use Rattle.std.specs.Int.{w32, cast_unsigned}
use Rattle.rv_decode.specs.declared.instructions.Source.TheVariants.{Vector, Scalar, Immediate}
use Rattle.vreg_groups.specs.Group.{written}
use Rattle.vreg_groups.specs.NewElements.{mask_policy_of, mask_write_of, policy_of}
use Rattle.vector_core.specs.Words.{Hart, Same, Setup, Source, Span, active_of, body_of}
use Rattle.vector_core.specs.Words.{bytes_of_width, low_bits, reg_of}
use Rattle.vector_core.specs.Setup.{group_at}

-- the elements of the second operand: of a group, or each of them a scalar's or an immediate's low
-- SEW bits. An immediate is sign-extended.
unfoldable pub second_of : ℕ → Setup → Hart → Source → List ℕ → List ℕ
second_of vlenb s hart (Vector vs1) file = body_of vlenb (group_at s vs1 Same) file
second_of vlenb s hart (Scalar rs1) file =
    replicate s.vl (low_bits (bytes_of_width s.vtype.sew) (reg_of rs1 hart))
second_of vlenb s hart (Immediate imm) file =
    replicate s.vl (low_bits (bytes_of_width s.vtype.sew) (cast_unsigned w32 imm))

-- the registers after the body's results were written to a group. Where vl is 0 nothing is, the
-- tail neither.
unfoldable pub results_written : ℕ → Setup → Span → Bool → List ℕ → List ℕ → List ℕ
results_written vlenb s group masked results file =
    if s.vl == 0 then file
    else written vlenb group (policy_of s.agnostic s.vtype) results
    (active_of vlenb masked s.vl file) file

-- and after its bits were written to a mask register
unfoldable pub bits_written : ℕ → Setup → ℕ → Bool → List Bool → List ℕ → List ℕ
bits_written vlenb s vd masked results file =
    if s.vl == 0 then file
    else mask_write_of vlenb vd (mask_policy_of s.agnostic s.vtype) results
    (active_of vlenb masked s.vl file) file
