-- The first k bits are written.
use Rattle.std.proofs.Common.{◌≡◌, ◌<◌, ◌==◌, ℕ, false, not, length, get_or}
use Rattle.lane_int.proofs.lane.U32Lane.test_chunk.Given as goal

abbrev pub invariant-loop-k : goal.invariant-loop-k
invariant-loop-k l =
    (length l.tests ≡ 16)
    × ((j : ℕ) → j < l.k → get_or l.tests j false ≡ not (get_or l.results j 0 == 0))
