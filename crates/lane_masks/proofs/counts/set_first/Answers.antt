use Rattle.std.proofs.Common.{◌∙◌, ap, refl, arith, length}
use Rattle.lane_masks.specs.Masks.{set_at, first_set, set_first_of}
use Rattle.lane_masks.proofs.OverlayLemmas.{place_more, place_all}
use Rattle.lane_masks.proofs.counts.set_first.Goals as goal

pub loop-i-preserved : goal.loop-i-preserved
loop-i-preserved c =
    place_more (set_at c.args.op (first_set c.args.mask.now)) (length c.args.mask.now) c.loop-i.i c.args.mask.now c.loop-i.mask c.is_set.result c.loop-i.invariant (omega arith) refl
    (c.is_set.ensures ∙ ap (λ f. set_at c.args.op f c.loop-i.i) c.first-first.ensures)

pub returns : goal.returns
unfolding set_first_of
returns c =
    place_all (set_at c.args.op (first_set c.args.mask.now)) (length c.args.mask.now) c.loop-i.i c.args.mask.now c.loop-i.mask c.loop-i.invariant (omega arith) refl
