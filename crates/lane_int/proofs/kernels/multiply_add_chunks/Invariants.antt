-- In both loops the elements below the place are written and the rest are as they were.
use Rattle.std.proofs.Common.{◌≡◌, ◌-◌, ◌≤◌, length}
use Rattle.lane_int.specs.Lists.{zip3}
use Rattle.lane_int.proofs.Overlay.{overlaid}
use Rattle.lane_int.proofs.kernels.multiply_add_chunks.Given as goal

abbrev pub invariant-loop-values : goal.invariant-loop-values
invariant-loop-values g l =
    (l.at ≤ length l.values)
    × (length l.values ≡ length l.fn.values)
    × (l.values ≡ overlaid l.at (zip3 (g.T.Lane.added_of l.op) l.a l.b l.fn.values) l.fn.values)

abbrev pub decreases-loop-values : goal.decreases-loop-values
decreases-loop-values g l = length l.values - l.at

abbrev pub invariant-loop-i : goal.invariant-loop-i
invariant-loop-i g l =
    (length l.values ≡ length l.fn.values)
    × (l.values ≡ overlaid l.i (zip3 (g.T.Lane.added_of l.op) l.a l.b l.fn.values) l.fn.values)
