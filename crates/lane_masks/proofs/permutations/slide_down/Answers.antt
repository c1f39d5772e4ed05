use Rattle.std.proofs.Common.{◌+◌, refl, arith, length, slice_index_or}
use Rattle.lane_masks.specs.Permutations.{slid_down}
use Rattle.lane_masks.proofs.OverlayLemmas.{place_more, place_all}
use Rattle.lane_masks.proofs.permutations.slide_down.Goals as goal

pub loop-i-preserved : goal.loop-i-preserved
loop-i-preserved g c =
    place_more (λ i. slice_index_or c.args.source.now (i + c.args.offset) c.args.zero) (length c.args.out.now) c.loop-i.i c.args.out.now c.loop-i.out c.element_at.result c.loop-i.invariant (omega arith) refl c.element_at.ensures

pub returns : goal.returns
unfolding slid_down
returns g c =
    place_all (λ i. slice_index_or c.args.source.now (i + c.args.offset) c.args.zero) (length c.args.out.now) c.loop-i.i c.args.out.now c.loop-i.out c.loop-i.invariant (omega arith) refl
