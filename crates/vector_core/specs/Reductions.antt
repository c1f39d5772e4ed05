-- Reductions, a definition for each shape ("Vector Reduction Operations"): element 0 of vd is
-- element 0 of vs1 together with the active elements of vs2.
use Rattle.std.specs.Prelude.{ℕ, ◌*◌, Bool, List, map}
use Rattle.std.specs.Int.{w16, w32, w64}
use Rattle.rv_decode.specs.declared.instructions.FoldOp.TheVariants.{Sum}
use Rattle.rv_decode.specs.declared.instructions.VReduce.TheVariants.{Fold, WidenSum}
use Rattle.std.specs.Int as int
use Rattle.lane_masks.specs.Folds as lanes
use Rattle.vector_core.specs.Words.{Hart, Memory, Same, Setup, VReduce, W16, W32, W8, Width}
use Rattle.vector_core.specs.Words.{active_of, body_of, bytes_of_width, FoldOp}
use Rattle.vector_core.specs.Singles.{first_element, first_written}
use Rattle.vector_core.specs.Vectors.{Stepped, Vectors, in_registers}
use Rattle.vector_core.specs.{Integer.lane_width, Setup.group_at}

unfoldable pub fold_of : ℕ → Setup → FoldOp → ℕ → ℕ → ℕ → Bool → List ℕ → List ℕ
fold_of vlenb s op vd vs2 vs1 masked file =
    first_written vlenb s (bytes_of_width s.vtype.sew) vd
    (lanes.fold_of op (lane_width s.vtype.sew)
    (first_element vlenb (bytes_of_width s.vtype.sew) vs1 file)
    (active_of vlenb masked s.vl file) (body_of vlenb (group_at s vs2 Same) file)) file

-- the width of a widening reduction's sum: 2*SEW. No instruction that is legal has 64 bits.
abbrev pub sum_width : Width → int.Width
sum_width W8 = w16
sum_width W16 = w32
sum_width W32 = w64

-- the sum at 2*SEW: of vs1 the element has 2*SEW, and those of vs2 are extended
unfoldable pub widen_sum_of : ℕ → Setup → Bool → ℕ → ℕ → ℕ → Bool → List ℕ → List ℕ
widen_sum_of vlenb s signed vd vs2 vs1 masked file =
    first_written vlenb s (2 * bytes_of_width s.vtype.sew) vd
    (lanes.fold_of Sum (sum_width s.vtype.sew)
    (first_element vlenb (2 * bytes_of_width s.vtype.sew) vs1 file)
    (active_of vlenb masked s.vl file)
    (map (lanes.extended signed (lane_width s.vtype.sew) (sum_width s.vtype.sew))
    (body_of vlenb (group_at s vs2 Same) file))) file

unfoldable pub reduce_of : ℕ → Setup → VReduce → List ℕ → List ℕ
reduce_of vlenb s (Fold op vd vs2 vs1 masked) file = fold_of vlenb s op vd vs2 vs1 masked file
reduce_of vlenb s (WidenSum signed vd vs2 vs1 masked) file =
    widen_sum_of vlenb s signed vd vs2 vs1 masked file

unfoldable pub reduce_step : ℕ → Setup → VReduce → Hart → Vectors → Memory → Stepped
reduce_step vlenb s insn hart v memory =
    in_registers (reduce_of vlenb s insn v.registers) hart v memory
