-- What is packed so far, with what will be, is what is kept of all.
use Rattle.std.proofs.Common.{◌≡◌, ◌≤◌, ◌++◌, take, drop}
use Rattle.lane_masks.specs.Folds.{kept}
use Rattle.lane_masks.proofs.permutations.compress.Given as goal

abbrev pub invariant-loop-i : goal.invariant-loop-i
invariant-loop-i g l =
    (l.count ≤ l.i) × (take l.count l.values ++ kept (drop l.i l.bits) (drop l.i l.values) ≡ kept l.bits l.initial.values)
