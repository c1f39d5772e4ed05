-- The fold of what comes from i on is the whole one.
use Rattle.std.proofs.Common.{◌≡◌, map, drop}
use Rattle.std.specs.List.{fold}
use Rattle.lane_masks.specs.Folds.{fold_of, joined, kept}
use Rattle.lane_masks.proofs.folds.fold.Given as goal

abbrev pub invariant-loop-i : goal.invariant-loop-i
invariant-loop-i g l =
    fold (joined l.op g.T.FoldLane.width) (g.T.FoldLane.number l.so_far) (kept (drop l.i l.active) (drop l.i (map g.T.FoldLane.number l.values)))
    ≡ fold_of l.op g.T.FoldLane.width (g.T.FoldLane.number l.initial.so_far) l.active (map g.T.FoldLane.number l.values)
