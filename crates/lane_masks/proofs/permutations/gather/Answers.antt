use Rattle.std.proofs.Common.{arith, slice_index_or}
use Rattle.std.proofs.lemmas.List.{get_or_default}
use Rattle.lane_masks.proofs.OverlayLemmas.{each_more}
use Rattle.lane_masks.proofs.permutations.gather.Goals as goal

pub loop-i-preserved : goal.loop-i-preserved
loop-i-preserved g c =
    each_more (λ i. slice_index_or c.args.source.now i c.args.zero) c.args.indices.now c.loop-i.i _ c.args.out.now c.loop-i.out c.element_at.result c.loop-i.invariant (omega arith) c.requires (get_or_default c.args.indices.now c.loop-i.i 0 _ (omega (arith, c.requires))) c.element_at.ensures
