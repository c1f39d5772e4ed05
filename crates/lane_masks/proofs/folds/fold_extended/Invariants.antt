-- The sum with what comes from i on is the whole one.
use Rattle.std.proofs.Common.{◌≡◌, map, drop}
use Rattle.std.specs.List.{fold}
use Rattle.lane_masks.specs.Folds.{extended, fold_of, joined, kept}
use Rattle.rv_decode.specs.declared.instructions.FoldOp.TheVariants.{Sum}
use Rattle.lane_masks.proofs.folds.fold_extended.Given as goal

abbrev pub invariant-loop-i : goal.invariant-loop-i
invariant-loop-i g l =
    let numbers = map (λ n. extended l.is_signed g.N.FoldLane.width g.W.FoldLane.width (g.N.FoldLane.number n)) l.values in
    fold (joined Sum g.W.FoldLane.width) (g.W.FoldLane.number l.so_far) (kept (drop l.i l.active) (drop l.i numbers))
    ≡ fold_of Sum g.W.FoldLane.width (g.W.FoldLane.number l.initial.so_far) l.active numbers
