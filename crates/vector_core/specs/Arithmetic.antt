-- What the instructions that compute make of the registers, by their shapes.
use Rattle.std.specs.Prelude.{ℕ, Bool, true, false, List}
use Rattle.rv_decode.specs.declared.instructions.VArith.TheVariants as shape
use Rattle.vector_core.specs.Words.{Hart, Setup, VArith}
use Rattle.vector_core.specs.Integer.{carry_of, carry_out_of, compare_of, int_of, multiply_add_of}
use Rattle.vector_core.specs.Widening.{extend_of, wide_of, widen_multiply_add_of, widen_of}
use Rattle.vector_core.specs.{Computed.Computed, Computed.exact, FixedPoint.fixed_of, Moves.copy_of}
use Rattle.vector_core.specs.{Moves.merge_of, Narrowing.clip_of, Narrowing.narrow_of}

unfoldable pub arith_of : ℕ → Setup → Hart → VArith → List ℕ → Computed
arith_of vlenb s hart (shape.Int op vd vs2 b masked) file =
    exact (int_of vlenb s hart op vd vs2 b masked file)
arith_of vlenb s hart (shape.MultiplyAdd op vd vs2 b masked) file =
    exact (multiply_add_of vlenb s hart op vd vs2 b masked file)
arith_of vlenb s hart (shape.Carry op vd vs2 b) file =
    exact (carry_of vlenb s hart op vd vs2 b file)
arith_of vlenb s hart (shape.CarryOut op vd vs2 b with_carry) file =
    exact (carry_out_of vlenb s hart op vd vs2 b with_carry file)
arith_of vlenb s hart (shape.Merge vd vs2 b) file = exact (merge_of vlenb s hart vd vs2 b file)
arith_of vlenb s hart (shape.Copy vd b) file = exact (copy_of vlenb s hart vd b file)
arith_of vlenb s hart (shape.Compare op vd vs2 b masked) file =
    exact (compare_of vlenb s hart op vd vs2 b masked file)
arith_of vlenb s hart (shape.Fixed op vd vs2 b masked) file =
    fixed_of vlenb s hart op vd vs2 b masked file
arith_of vlenb s hart (shape.Widen op vd vs2 b masked) file =
    exact (widen_of vlenb s hart op vd vs2 b masked file)
arith_of vlenb s hart (shape.Wide op vd vs2 b masked) file =
    exact (wide_of vlenb s hart op vd vs2 b masked file)
arith_of vlenb s hart (shape.WidenMultiplyAdd op vd vs2 b masked) file =
    exact (widen_multiply_add_of vlenb s hart op vd vs2 b masked file)
arith_of vlenb s hart (shape.Narrow op vd vs2 b masked) file =
    exact (narrow_of vlenb s hart op vd vs2 b masked file)
arith_of vlenb s hart (shape.Clip op vd vs2 b masked) file =
    clip_of vlenb s hart op vd vs2 b masked file
arith_of vlenb s hart (shape.Extend signed of vd vs2 masked) file =
    exact (extend_of vlenb s signed of vd vs2 masked file)

-- whether an instruction has a group of 2*SEW
unfoldable pub has_doubles : VArith → Bool
has_doubles (shape.Widen op vd vs2 b masked) = true
has_doubles (shape.Wide op vd vs2 b masked) = true
has_doubles (shape.WidenMultiplyAdd op vd vs2 b masked) = true
has_doubles (shape.Narrow op vd vs2 b masked) = true
has_doubles (shape.Clip op vd vs2 b masked) = true
has_doubles insn = false

-- whether all of an instruction's elements are of SEW
unfoldable pub is_same_width : VArith → Bool
is_same_width (shape.Int op vd vs2 b masked) = true
is_same_width (shape.MultiplyAdd op vd vs2 b masked) = true
is_same_width (shape.Carry op vd vs2 b) = true
is_same_width (shape.CarryOut op vd vs2 b with_carry) = true
is_same_width (shape.Merge vd vs2 b) = true
is_same_width (shape.Copy vd b) = true
is_same_width (shape.Compare op vd vs2 b masked) = true
is_same_width (shape.Fixed op vd vs2 b masked) = true
is_same_width insn = false
