use Rattle.std.proofs.Common.{◌≡◌, ◌∙◌, refl, sym, ap, arith, length, map}
use Rattle.std.proofs.lemmas.List.{length-map}
use Rattle.lane_masks.specs.Folds.{fold_of, joined}
use Rattle.lane_masks.proofs.FoldLemmas.{fold_taken, fold_left, kept-end}
use Rattle.lane_masks.proofs.OverlayLemmas.{number_at}
use Rattle.lane_masks.proofs.folds.fold.Goals.{then-active-i, else-active-i}
use Rattle.lane_masks.proofs.folds.fold.Goals as goal

pub loop-i-init : goal.loop-i-init
unfolding fold_of
loop-i-init g c = refl

pub loop-i-preserved : goal.loop-i-preserved
loop-i-preserved g c =
    let f = joined c.args.op g.T.FoldLane.width in
    let numbers = map g.T.FoldLane.number c.args.values.now in
    let long : length numbers ≡ length c.args.values.now = length-map c.args.values.now g.T.FoldLane.number in
    elim c.if-active-i.branch [
      | then-active-i w ↦ fold_taken f c.args.active.now numbers c.loop-i.i (g.T.FoldLane.number c.loop-i.so_far) (g.T.FoldLane.number c.if-active-i.so_far) (g.T.FoldLane.number w.index-values-i.result) _ (omega (arith, c.requires)) (c.requires ∙ sym long) w.if-active-i.true (number_at g.T.FoldLane.number c.args.values.now c.loop-i.i w.index-values-i.result (omega arith) w.index-values-i.is) (ap g.T.FoldLane.number w.so_far-is ∙ w.join-so_far.ensures) c.loop-i.invariant
      | else-active-i w ↦ rw w.so_far-is (fold_left f c.args.active.now numbers c.loop-i.i (g.T.FoldLane.number c.loop-i.so_far) _ (omega (arith, c.requires)) (c.requires ∙ sym long) w.if-active-i.false c.loop-i.invariant)
    ]

pub returns : goal.returns
returns g c = rw (sym c.loop-i.invariant, kept-end c.args.active.now (map g.T.FoldLane.number c.args.values.now) c.loop-i.i (omega (arith, c.requires))) refl
