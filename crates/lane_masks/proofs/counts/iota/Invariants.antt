-- The first i elements are written, the rest are as they were; the bits below i are counted.
use Rattle.std.proofs.Common.{◌≡◌, ◌%◌, ◌^◌, map, take, length}
use Rattle.std.specs.List.{range_with_len}
use mir.Val.{bits}
use Rattle.lane_masks.specs.Masks.{set_count}
use Rattle.lane_masks.proofs.OverlayLemmas.{overlaid}
use Rattle.lane_masks.proofs.counts.iota.Given as goal

abbrev pub invariant-loop-i : goal.invariant-loop-i
invariant-loop-i g l =
    (map g.T.FoldLane.number l.out ≡ overlaid l.i (map (λ i. set_count (take i l.mask) % 2 ^ bits g.T.FoldLane.width) (range_with_len 0 (length l.mask))) (map g.T.FoldLane.number l.initial.out))
    × (l.below ≡ set_count (take l.i l.mask))
