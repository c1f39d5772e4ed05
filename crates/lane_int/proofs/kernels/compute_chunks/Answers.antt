use Rattle.std.proofs.Common.{◌≡◌, ◌∙◌, ◌+◌, ◌≤◌, ap, sym, length, arith}
use Rattle.std.proofs.lemmas.List.{length-set}
use Rattle.std.proofs.lemmas.Simd.{length-put_chunk, length-zip2}
use Rattle.lane_int.proofs.ChunkKernelLemmas.{chunk_written}
use Rattle.lane_int.proofs.Overlay.{zip2_more, overlaid_all}
use Rattle.lane_int.proofs.kernels.compute_chunks.Goals as goal

pub loop-values-preserved : goal.loop-values-preserved
loop-values-preserved g c =
    let f = g.T.Lane.result_of c.args.op in
    let at = c.loop-values.at in
    let m = c.loop-values.at + c.count-at.result in
    let same_length = c.loop-values.invariant.1 in
    let new = c.chunk.new.values in
    let long : length new ≡ length c.loop-values.values = ap length c.chunk.ensures ∙ length-put_chunk at c.loop-values.values _ in
    let is : m ≡ at + g.T.Lane.count = omega (arith, c.count-at.ensures.meaning) in
    let inside : m ≤ length c.loop-values.values = omega (arith, c.count-at.ensures.meaning, c.count.ensures.meaning, c.loop-values-test.true, c.loop-values.invariant.0) in (
      omega (arith, inside, long),
      long ∙ same_length,
      chunk_written f at g.T.Lane.count m c.args.values.now c.args.b.now c.loop-values.values new c.loop-values.invariant.2 is (omega (arith, inside, same_length)) c.requires.length c.chunk.ensures,
    )

pub loop-i-preserved : goal.loop-i-preserved
loop-i-preserved g c = (
  length-set c.loop-i.values c.loop-i.i c.int_result.result ∙ c.loop-i.invariant.0,
  zip2_more (g.T.Lane.result_of c.args.op) c.args.values.now c.loop-i.values c.args.b.now c.loop-i.i c.index-values-i.result c.index-b-i.result c.int_result.result c.loop-i.invariant.1 (omega (arith, c.loop-i.invariant.0, c.loop-i.auto.values)) c.requires.length c.index-values-i.is c.index-b-i.is c.int_result.ensures,
)

pub returns : goal.returns
returns g c = overlaid_all c.loop-i.i _ c.args.values.now c.loop-i.values c.loop-i.invariant.1 (omega (arith, c.loop-i.invariant.0)) (length-zip2 (g.T.Lane.result_of c.args.op) c.args.values.now c.args.b.now (sym c.requires.length))
