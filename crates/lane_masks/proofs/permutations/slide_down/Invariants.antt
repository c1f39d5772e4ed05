-- The first i elements are written, the rest are as they were.
use Rattle.std.proofs.Common.{◌≡◌, ◌+◌, map, length, slice_index_or}
use Rattle.std.specs.List.{range_with_len}
use Rattle.lane_masks.proofs.OverlayLemmas.{overlaid}
use Rattle.lane_masks.proofs.permutations.slide_down.Given as goal

abbrev pub invariant-loop-i : goal.invariant-loop-i
invariant-loop-i g l =
    l.out ≡ overlaid l.i (map (λ i. slice_index_or l.source (i + l.offset) l.zero) (range_with_len 0 (length l.initial.out))) l.initial.out
