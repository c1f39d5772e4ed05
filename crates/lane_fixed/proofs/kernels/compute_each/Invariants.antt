-- The first i elements are written, the rest are as they were; what is known of saturation is that of the first i.
use Rattle.std.proofs.Common.{◌≡◌, map}
use lib.Lanes.{zip2}
use Rattle.lane_fixed.specs.FixedPoint.{element, saturates}
use Rattle.lane_fixed.proofs.KernelLemmas.{overlaid, any_before}
use Rattle.lane_fixed.proofs.kernels.compute_each.Given as goal

abbrev pub invariant-loop-i : goal.invariant-loop-i
invariant-loop-i g l =
    let number = g.T.FixedLane.number in let xs = map number l.initial.values in let ys = map number l.b in
    (map number l.values ≡ overlaid l.i (zip2 (element l.op l.mode g.T.FixedLane.width) xs ys) xs)
    × (l.is_saturated ≡ any_before l.i (saturates l.op l.mode g.T.FixedLane.width) xs ys l.active)
