-- In both loops the elements below the place are written and the rest are as they were.
use Rattle.std.proofs.Common.{◌≡◌, ◌-◌, ◌≤◌, length}
use lib.Lanes.{zip2}
use Rattle.lane_int.proofs.Overlay.{overlaid}
use Rattle.lane_int.proofs.kernels.compute_chunks.Given as goal

abbrev pub invariant-loop-values : goal.invariant-loop-values
invariant-loop-values g l =
    (l.at ≤ length l.values)
    × (length l.values ≡ length l.fn.values)
    × (l.values ≡ overlaid l.at (zip2 (g.T.Lane.result_of l.op) l.fn.values l.b) l.fn.values)

abbrev pub decreases-loop-values : goal.decreases-loop-values
decreases-loop-values g l = length l.values - l.at

abbrev pub invariant-loop-i : goal.invariant-loop-i
invariant-loop-i g l =
    (length l.values ≡ length l.fn.values)
    × (l.values ≡ overlaid l.i (zip2 (g.T.Lane.result_of l.op) l.fn.values l.b) l.fn.values)
