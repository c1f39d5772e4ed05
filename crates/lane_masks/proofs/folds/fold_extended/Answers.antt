use Rattle.std.proofs.Common.{◌≡◌, ◌∙◌, ◌%◌, ◌^◌, ℕ, Bool, refl, sym, ap, arith, length, map}
use Rattle.std.proofs.lemmas.List.{length-map}
use Rattle.lane_masks.specs.Folds.{extended, fold_of, joined}
use mir.Val.{bits}
use Rattle.std.specs.Int.{Width}
use Rattle.rv_decode.specs.declared.instructions.FoldOp.TheVariants.{Sum}
use Rattle.lane_masks.proofs.FoldLemmas.{fold_taken, fold_left, kept-end}
use Rattle.lane_masks.proofs.OverlayLemmas.{number_at}
use Rattle.lane_masks.proofs.folds.fold_extended.Goals.{then-active-i, else-active-i}
use Rattle.lane_masks.proofs.folds.fold_extended.Goals as goal

abbrev number_of : {X : Type 0} → Bool → Width → Width → (X → ℕ) → X → ℕ
number_of is_signed narrow wide number x = extended is_signed narrow wide (number x)

pub loop-i-init : goal.loop-i-init
unfolding fold_of
loop-i-init g c = refl

pub loop-i-preserved : goal.loop-i-preserved
unfolding extended
loop-i-preserved g c =
    let f = joined Sum g.W.FoldLane.width in
    let number = number_of c.args.is_signed g.N.FoldLane.width g.W.FoldLane.width g.N.FoldLane.number in
    let numbers = map number c.args.values.now in
    let long : length numbers ≡ length c.args.values.now = length-map c.args.values.now number in
    elim c.if-active-i.branch [
      | then-active-i w ↦ fold_taken f c.args.active.now numbers c.loop-i.i (g.W.FoldLane.number c.loop-i.so_far) (g.W.FoldLane.number c.if-active-i.so_far) (number w.index-values-i.result) _ (omega (arith, c.requires)) (c.requires ∙ sym long) w.if-active-i.true (number_at number c.args.values.now c.loop-i.i w.index-values-i.result (omega arith) w.index-values-i.is) (ap g.W.FoldLane.number w.so_far-is ∙ w.join-so_far.ensures ∙ ap (f (g.W.FoldLane.number c.loop-i.so_far)) (w.low-value.ensures ∙ ap (λ n. n % 2 ^ bits g.W.FoldLane.width) w.extended.ensures)) c.loop-i.invariant
      | else-active-i w ↦ rw w.so_far-is (fold_left f c.args.active.now numbers c.loop-i.i (g.W.FoldLane.number c.loop-i.so_far) _ (omega (arith, c.requires)) (c.requires ∙ sym long) w.if-active-i.false c.loop-i.invariant)
    ]

pub returns : goal.returns
returns g c =
    let numbers = map (λ n. extended c.args.is_signed g.N.FoldLane.width g.W.FoldLane.width (g.N.FoldLane.number n)) c.args.values.now in
    rw (sym c.loop-i.invariant, kept-end c.args.active.now numbers c.loop-i.i (omega (arith, c.requires))) refl
