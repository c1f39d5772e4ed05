use Rattle.std.proofs.Common.{◌≡◌, arith, ap, sym, ◌∙◌, false, get_or, lit<}
use Rattle.std.proofs.lemmas.List.{get_or_default, length-set}
use Rattle.std.proofs.lemmas.Simd.{length-zip2}
use Rattle.std.proofs.lemmas.Grind.{get_or_default_zero}
use Rattle.lane_masks.specs.Chunks.{is_set}
use Rattle.lane_masks.specs.Masks.{logic_of}
use Rattle.lane_masks.proofs.OverlayLemmas.{pair_more, read_more, overlaid_all}
use Rattle.lane_masks.proofs.logic.combine.Goals as goal

pub loop-k-preserved : goal.loop-k-preserved
loop-k-preserved c =
    let at = c.loop-values.at in
    let k = c.loop-k.k in
    let byte : c.index.result.now ≡ get_or c.chunk_u8-results.result k 0 = c.index.ensures ∙ get_or_default_zero c.chunk_u8-results.result k c.index.result.now (omega (arith, c.loop-k.auto.results, c.loop-k-test.true)) in
    let z : c.bit_in.result ≡ logic_of c.args.op (is_set 0 (get_or c.lanes_at-lanes.result k 0)) (is_set 0 (get_or c.lanes_at.result k 0)) = c.bit_in.ensures ∙ ap (is_set 0) byte ∙ c.chunk_u8-results.ensures.bits k 0 c.loop-k-test.true (lit< tt) in
    read_more (logic_of c.args.op) c.args.values.now c.args.b.now c.loop-values.values c.loop-k.values at k 16 _ _ c.bit_in.result c.loop-values.invariant.2 c.loop-k.invariant.1 c.requires c.loop-k.invariant.0 (omega (arith, c.loop-values-test.true, c.loop-values.invariant.0, c.loop-values.invariant.1)) c.loop-k-test.true
    (c.lanes_at-lanes.ensures k c.loop-k-test.true) (c.lanes_at.ensures k c.loop-k-test.true) z

pub loop-i-preserved : goal.loop-i-preserved
loop-i-preserved c = (
  length-set c.loop-i.values c.loop-i.i c.bit_of.result ∙ c.loop-i.invariant.0,
  pair_more (logic_of c.args.op) c.args.values.now c.loop-i.values c.args.b.now c.loop-i.i _ _ c.bit_of.result c.loop-i.invariant.1 (omega (arith, c.loop-i.invariant.0, c.loop-i.auto.values)) c.requires (get_or_default c.loop-i.values c.loop-i.i false _ (omega (arith, c.loop-i.auto.values))) (get_or_default c.args.b.now c.loop-i.i false _ (omega (arith, c.requires, c.loop-i.invariant.0, c.loop-i.auto.values))) c.bit_of.ensures,
)

pub returns : goal.returns
returns c =
    overlaid_all c.loop-i.i _ c.args.values.now c.loop-i.values c.loop-i.invariant.1 (omega (arith, c.loop-i.invariant.0)) (length-zip2 (logic_of c.args.op) c.args.values.now c.args.b.now (sym c.requires))
