-- In both loops the elements below the place are written and the rest are as they were; what is known of saturation is that of those below it.
use Rattle.std.proofs.Common.{◌≡◌, ◌-◌, ◌≤◌, length, map}
use lib.Lanes.{zip2}
use Rattle.lane_fixed.specs.Chunks.{lane_result, lane_saturates}
use Rattle.lane_fixed.proofs.KernelLemmas.{overlaid, any_before}
use Rattle.lane_fixed.proofs.kernels.compute_chunks.Given as goal

abbrev pub invariant-loop-values : goal.invariant-loop-values
invariant-loop-values g l =
    let number = g.T.FixedLane.number in let xs = map number l.fn.values in let ys = map number l.b in
    (l.at ≤ length l.values)
    × (length l.values ≡ length l.fn.values)
    × (map number l.values ≡ overlaid l.at (zip2 (lane_result l.op g.T.FixedLane.width) xs ys) xs)
    × (l.is_saturated ≡ any_before l.at (lane_saturates l.op g.T.FixedLane.width) xs ys l.active)

abbrev pub decreases-loop-values : goal.decreases-loop-values
decreases-loop-values g l = length l.values - l.at

abbrev pub invariant-loop-i : goal.invariant-loop-i
invariant-loop-i g l =
    let number = g.T.FixedLane.number in let xs = map number l.fn.values in let ys = map number l.b in
    (length l.values ≡ length l.fn.values)
    × (map number l.values ≡ overlaid l.i (zip2 (lane_result l.op g.T.FixedLane.width) xs ys) xs)
    × (l.is_saturated ≡ any_before l.i (lane_saturates l.op g.T.FixedLane.width) xs ys l.active)
