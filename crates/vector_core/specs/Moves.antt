-- Instructions that put elements of SEW, or whole registers, somewhere as they are ("Vector Integer
-- Merge Instructions", "Vector Integer Move Instructions", "Integer Scalar Move Instructions",
-- "Whole Vector Register Move"). Each element of the body is active.
use Rattle.std.specs.Prelude.{ℕ, Bool, false, List, if◌then◌else◌}
use Rattle.std.specs.Int.{w32, cast_signed, cast_unsigned}
use Rattle.rv_decode.specs.declared.instructions.VMove.TheVariants.{ToScalar, FromScalar, Whole}
use Rattle.lane_int.specs.Lists.{zip3}
use Rattle.vreg_groups.specs.{Copies.copied, Legality.whole_count}
use Rattle.vector_core.specs.Words.{Hart, Memory, Same, Setup, Source, VMove, body_of}
use Rattle.vector_core.specs.Words.{bytes_of_width, low_bits, mask_bits, reg_of}
use Rattle.vector_core.specs.Operands.{results_written, second_of}
use Rattle.vector_core.specs.Singles.{first_element, first_written}
use Rattle.vector_core.specs.Vectors.{Stepped, Vectors, in_registers, in_scalar}
use Rattle.vector_core.specs.{Integer.lane_width, Setup.group_at}

-- the second operand's element where the bit is 1
abbrev pub chosen : {A : Type 0} → A → A → Bool → A
chosen a b bit = if bit then b else a

-- vd is b where the bit of v0 is 1, and vs2 elsewhere
unfoldable pub merge_of : ℕ → Setup → Hart → ℕ → ℕ → Source → List ℕ → List ℕ
merge_of vlenb s hart vd vs2 b file =
    results_written vlenb s (group_at s vd Same) false
    (zip3 chosen (body_of vlenb (group_at s vs2 Same) file) (second_of vlenb s hart b file)
    (mask_bits vlenb 0 s.vl file)) file

-- vd is b
unfoldable pub copy_of : ℕ → Setup → Hart → ℕ → Source → List ℕ → List ℕ
copy_of vlenb s hart vd b file =
    results_written vlenb s (group_at s vd Same) false (second_of vlenb s hart b file) file

-- vmv.x.s: element 0 of vs2, sign-extended, whatever vl is
unfoldable pub to_scalar_of : ℕ → Setup → ℕ → List ℕ → ℕ
to_scalar_of vlenb s vs2 file =
    cast_unsigned w32 (cast_signed (lane_width s.vtype.sew)
    (first_element vlenb (bytes_of_width s.vtype.sew) vs2 file))

-- vmv.s.x: element 0 of vd is the low SEW bits of x[rs1]
unfoldable pub from_scalar_of : ℕ → Setup → Hart → ℕ → ℕ → List ℕ → List ℕ
from_scalar_of vlenb s hart vd rs1 file =
    first_written vlenb s (bytes_of_width s.vtype.sew) vd
    (low_bits (bytes_of_width s.vtype.sew) (reg_of rs1 hart)) file

-- vmv1r to vmv8r copy whole registers, whatever vtype and vl are
unfoldable pub move_step : ℕ → Setup → VMove → Hart → Vectors → Memory → Stepped
move_step vlenb s (ToScalar rd vs2) hart v memory =
    in_scalar rd (to_scalar_of vlenb s vs2 v.registers) hart v memory
move_step vlenb s (FromScalar vd rs1) hart v memory =
    in_registers (from_scalar_of vlenb s hart vd rs1 v.registers) hart v memory
move_step vlenb s (Whole count vd vs2) hart v memory =
    in_registers (copied vlenb vd vs2 (whole_count count) v.registers) hart v memory
