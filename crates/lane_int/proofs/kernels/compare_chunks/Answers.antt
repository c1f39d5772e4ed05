use Rattle.std.proofs.Common.{◌<◌, arith, sym, ◌∙◌}
use Rattle.std.proofs.lemmas.List.{length-set}
use Rattle.std.proofs.lemmas.Simd.{length-zip2}
use Rattle.lane_int.proofs.Overlay.{zip2_more_into, zip2_after_into, overlaid_all}
use Rattle.lane_int.proofs.kernels.compare_chunks.Goals as goal

pub loop-k-preserved : goal.loop-k-preserved
loop-k-preserved g c =
    let at = c.loop-bits.at in
    let k = c.loop-k.k in
    let within : k < g.T.Lane.count = omega (arith, c.loop-k-test.true, c.count-k-end.ensures.meaning) in
    zip2_after_into (g.T.Lane.test_of c.args.op) c.args.a.now c.args.b.now c.args.bits.now c.loop-k.bits at k _ c.loop-k.invariant.1 c.loop-k.invariant.0
    (omega (arith, within, c.loop-bits-test.true, c.count.ensures.meaning, c.loop-bits.invariant.0, c.loop-bits.invariant.1)) c.requires.a_len c.requires.b_len (λ d e. c.test_chunk-tests.ensures k d e within)

pub loop-i-preserved : goal.loop-i-preserved
loop-i-preserved g c = (
  length-set c.loop-i.bits c.loop-i.i c.int_test.result ∙ c.loop-i.invariant.0,
  zip2_more_into (g.T.Lane.test_of c.args.op) c.args.a.now c.args.b.now c.args.bits.now c.loop-i.bits c.loop-i.i c.index-a-i.result c.index-b-i.result c.int_test.result c.loop-i.invariant.1 (omega (arith, c.loop-i.invariant.0, c.loop-i.auto.bits)) c.requires.a_len c.requires.b_len c.index-a-i.is c.index-b-i.is c.int_test.ensures,
)

pub returns : goal.returns
returns g c = overlaid_all c.loop-i.i _ c.args.bits.now c.loop-i.bits c.loop-i.invariant.1 (omega (arith, c.loop-i.invariant.0)) (length-zip2 (g.T.Lane.test_of c.args.op) c.args.a.now c.args.b.now (c.requires.a_len ∙ sym c.requires.b_len) ∙ c.requires.a_len)
