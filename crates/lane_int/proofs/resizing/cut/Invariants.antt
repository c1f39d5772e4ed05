-- The first i elements are written, the rest are as they were.
use Rattle.std.proofs.Common.{◌≡◌, map}
use Rattle.lane_int.specs.Resizing.{cut_to}
use Rattle.lane_int.proofs.Overlay.{overlaid}
use Rattle.lane_int.proofs.resizing.cut.Given as goal

abbrev pub invariant-loop-i : goal.invariant-loop-i
invariant-loop-i g l =
    map g.N.Lane.number l.out ≡ overlaid l.i (map (λ n. cut_to g.N.Lane.width (g.W.Lane.number n)) l.values) (map g.N.Lane.number l.initial.out)
