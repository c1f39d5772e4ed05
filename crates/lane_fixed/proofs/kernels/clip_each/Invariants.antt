-- The first i results are written, the rest are as they were; what is known of saturation is that of the first i.
use Rattle.std.proofs.Common.{◌≡◌, map}
use lib.Lanes.{zip2}
use Rattle.lane_fixed.specs.FixedPoint.{clip_element, clip_saturates}
use Rattle.lane_fixed.proofs.KernelLemmas.{overlaid, any_before}
use Rattle.lane_fixed.proofs.kernels.clip_each.Given as goal

abbrev pub invariant-loop-i : goal.invariant-loop-i
invariant-loop-i g l =
    let xs = map g.W.FixedLane.number l.a in let ys = map g.N.FixedLane.number l.b in
    (map g.N.FixedLane.number l.results ≡ overlaid l.i (zip2 (clip_element l.op l.mode g.W.FixedLane.width g.N.FixedLane.width) xs ys) (map g.N.FixedLane.number l.initial.results))
    × (l.is_saturated ≡ any_before l.i (clip_saturates l.op l.mode g.W.FixedLane.width g.N.FixedLane.width) xs ys l.active)
