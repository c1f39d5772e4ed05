-- The first i elements are written, the rest are as they were.
use Rattle.std.proofs.Common.{◌≡◌, map, slice_index_or}
use Rattle.lane_masks.proofs.OverlayLemmas.{overlaid}
use Rattle.lane_masks.proofs.permutations.gather.Given as goal

abbrev pub invariant-loop-i : goal.invariant-loop-i
invariant-loop-i g l = l.out ≡ overlaid l.i (map (λ i. slice_index_or l.source i l.zero) l.indices) l.initial.out
