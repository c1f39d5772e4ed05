-- The first i bits are written, the rest are as they were.
use Rattle.std.proofs.Common.{◌≡◌, map, length}
use Rattle.std.specs.List.{range_with_len}
use Rattle.lane_masks.specs.Masks.{set_at, first_set}
use Rattle.lane_masks.proofs.OverlayLemmas.{overlaid}
use Rattle.lane_masks.proofs.counts.set_first.Given as goal

abbrev pub invariant-loop-i : goal.invariant-loop-i
invariant-loop-i l =
    l.mask ≡ overlaid l.i (map (set_at l.op (first_set l.initial.mask)) (range_with_len 0 (length l.initial.mask))) l.initial.mask
