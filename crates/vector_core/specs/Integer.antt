-- What the integer instructions on elements of SEW make of the registers, a definition for each
-- shape ("Vector Integer Arithmetic Instructions"): the elements of vs2 and of the second operand,
-- and what is computed of each pair.
use Rattle.std.specs.Prelude.{ℕ, Bool, false, List, replicate, if◌then◌else◌}
use lib.Lanes.{zip2}
use Rattle.std.specs.Int.{w8, w16, w32}
use Rattle.lane_int.specs.Integer.{element, compares, carried, carries, multiply_added}
use Rattle.lane_int.specs.Lists.{zip3}
use Rattle.std.specs.Int as int
use Rattle.vector_core.specs.Words.{CarryOp, CarryOutOp, CompareOp, Hart, IntOp, MultiplyAddOp}
use Rattle.vector_core.specs.Words.{Same, Setup, Source, W16, W32, W8, Width, body_of, mask_bits}
use Rattle.vector_core.specs.Operands.{bits_written, results_written, second_of}
use Rattle.vector_core.specs.{Operations.carry_out_lanes, Setup.group_at}

-- the width of the lanes that work on elements of SEW
abbrev pub lane_width : Width → int.Width
lane_width W8 = w8
lane_width W16 = w16
lane_width W32 = w32

-- vd is an operation on vs2 and b
unfoldable pub int_of : ℕ → Setup → Hart → IntOp → ℕ → ℕ → Source → Bool → List ℕ → List ℕ
int_of vlenb s hart op vd vs2 b masked file =
    results_written vlenb s (group_at s vd Same) masked
    (zip2 (element op (lane_width s.vtype.sew))
    (body_of vlenb (group_at s vs2 Same) file) (second_of vlenb s hart b file)) file

-- vd is a product and a sum of b, vs2 and the old vd
unfoldable pub multiply_add_of : ℕ → Setup → Hart → MultiplyAddOp → ℕ → ℕ → Source → Bool → List ℕ
    → List ℕ
multiply_add_of vlenb s hart op vd vs2 b masked file =
    results_written vlenb s (group_at s vd Same) masked
    (zip3 (multiply_added op (lane_width s.vtype.sew))
    (body_of vlenb (group_at s vs2 Same) file) (second_of vlenb s hart b file)
    (body_of vlenb (group_at s vd Same) file)) file

-- vd is a sum or difference of vs2, b and the bit of v0: each element of the body is active
unfoldable pub carry_of : ℕ → Setup → Hart → CarryOp → ℕ → ℕ → Source → List ℕ → List ℕ
carry_of vlenb s hart op vd vs2 b file =
    results_written vlenb s (group_at s vd Same) false
    (zip3 (carried op (lane_width s.vtype.sew))
    (body_of vlenb (group_at s vs2 Same) file) (second_of vlenb s hart b file)
    (mask_bits vlenb 0 s.vl file)) file

-- the carries or borrows that go in: the bits of v0, or none
abbrev pub carry_in : ℕ → Bool → ℕ → List ℕ → List Bool
carry_in vlenb with_carry vl file =
    if with_carry then mask_bits vlenb 0 vl file else replicate vl false

-- the bits of vd are the carries or borrows of vs2 and b
unfoldable pub carry_out_of : ℕ → Setup → Hart → CarryOutOp → ℕ → ℕ → Source → Bool → List ℕ
    → List ℕ
carry_out_of vlenb s hart op vd vs2 b with_carry file =
    bits_written vlenb s vd false
    (zip3 (carries (carry_out_lanes op) (lane_width s.vtype.sew))
    (body_of vlenb (group_at s vs2 Same) file) (second_of vlenb s hart b file)
    (carry_in vlenb with_carry s.vl file)) file

-- the bits of vd say how vs2 compares with b
unfoldable pub compare_of : ℕ → Setup → Hart → CompareOp → ℕ → ℕ → Source → Bool → List ℕ → List ℕ
compare_of vlenb s hart op vd vs2 b masked file =
    bits_written vlenb s vd masked
    (zip2 (compares op (lane_width s.vtype.sew))
    (body_of vlenb (group_at s vs2 Same) file) (second_of vlenb s hart b file)) file
