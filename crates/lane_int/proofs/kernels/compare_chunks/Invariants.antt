-- The bits below the place are written, and the rest are as they were.
use Rattle.std.proofs.Common.{◌≡◌, ◌+◌, ◌-◌, ◌≤◌, length}
use lib.Lanes.{zip2}
use Rattle.lane_int.proofs.Overlay.{overlaid}
use Rattle.lane_int.proofs.kernels.compare_chunks.Given as goal

abbrev pub invariant-loop-bits : goal.invariant-loop-bits
invariant-loop-bits g l =
    (l.at ≤ length l.bits)
    × (length l.bits ≡ length l.fn.bits)
    × (l.bits ≡ overlaid l.at (zip2 (g.T.Lane.test_of l.op) l.a l.b) l.fn.bits)

abbrev pub decreases-loop-bits : goal.decreases-loop-bits
decreases-loop-bits g l = length l.bits - l.at

abbrev pub invariant-loop-k : goal.invariant-loop-k
invariant-loop-k g l =
    (length l.bits ≡ length l.fn.bits)
    × (l.bits ≡ overlaid (l.at + l.k) (zip2 (g.T.Lane.test_of l.op) l.a l.b) l.fn.bits)

abbrev pub invariant-loop-i : goal.invariant-loop-i
invariant-loop-i g l =
    (length l.bits ≡ length l.fn.bits)
    × (l.bits ≡ overlaid l.i (zip2 (g.T.Lane.test_of l.op) l.a l.b) l.fn.bits)
