-- The first i elements are written, the rest are as they were.
use Rattle.std.proofs.Common.{◌≡◌, map}
use Rattle.lane_int.specs.Resizing.{extended_to}
use Rattle.lane_int.proofs.Overlay.{overlaid}
use Rattle.lane_int.proofs.resizing.extend_each.Given as goal

abbrev pub invariant-loop-i : goal.invariant-loop-i
invariant-loop-i g l =
    map g.W.Lane.number l.out ≡ overlaid l.i (map (λ n. extended_to l.is_signed g.N.Lane.width g.W.Lane.width (g.N.Lane.number n)) l.values) (map g.W.Lane.number l.initial.out)
