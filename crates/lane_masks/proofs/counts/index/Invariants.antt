-- The first i elements are written, the rest are as they were.
use Rattle.std.proofs.Common.{◌≡◌, ◌%◌, ◌^◌, map, length}
use Rattle.std.specs.List.{range_with_len}
use mir.Val.{bits}
use Rattle.lane_masks.proofs.OverlayLemmas.{overlaid}
use Rattle.lane_masks.proofs.counts.index.Given as goal

abbrev pub invariant-loop-i : goal.invariant-loop-i
invariant-loop-i g l =
    map g.T.FoldLane.number l.out ≡ overlaid l.i (map (λ i. i % 2 ^ bits g.T.FoldLane.width) (range_with_len 0 (length l.initial.out))) (map g.T.FoldLane.number l.initial.out)
