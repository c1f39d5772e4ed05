-- The first k lanes are written.
use Rattle.std.proofs.Common.{◌≡◌, ℕ, ◌+◌, ◌<◌, false, length, get_or}
use Rattle.lane_masks.specs.Chunks.{is_set}
use Rattle.lane_masks.proofs.logic.lanes_at.Given as goal

abbrev pub invariant-loop-k : goal.invariant-loop-k
invariant-loop-k l =
    (length l.lanes ≡ 16)
    × ((j : ℕ) → j < l.k → is_set 0 (get_or l.lanes j 0) ≡ get_or l.bits (l.at + j) false)
