-- The bits below the place are written, the rest are as they were.
use Rattle.std.proofs.Common.{◌≡◌, ◌+◌, ◌-◌, ◌≤◌, length}
use lib.Lanes.{zip2}
use Rattle.lane_masks.specs.Masks.{logic_of}
use Rattle.lane_masks.proofs.OverlayLemmas.{overlaid}
use Rattle.lane_masks.proofs.logic.combine.Given as goal

abbrev pub invariant-loop-values : goal.invariant-loop-values
invariant-loop-values l =
    (l.at ≤ length l.values)
    × (length l.values ≡ length l.fn.values)
    × (l.values ≡ overlaid l.at (zip2 (logic_of l.op) l.fn.values l.b) l.fn.values)

abbrev pub decreases-loop-values : goal.decreases-loop-values
decreases-loop-values l = length l.values - l.at

abbrev pub invariant-loop-k : goal.invariant-loop-k
invariant-loop-k l =
    (length l.values ≡ length l.fn.values)
    × (l.values ≡ overlaid (l.at + l.k) (zip2 (logic_of l.op) l.fn.values l.b) l.fn.values)

abbrev pub invariant-loop-i : goal.invariant-loop-i
invariant-loop-i l =
    (length l.values ≡ length l.fn.values)
    × (l.values ≡ overlaid l.i (zip2 (logic_of l.op) l.fn.values l.b) l.fn.values)
