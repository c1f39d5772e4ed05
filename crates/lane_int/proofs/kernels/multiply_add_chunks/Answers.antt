use Rattle.std.proofs.Common.{◌≡◌, ◌∙◌, ◌+◌, ◌≤◌, ap, sym, length, arith}
use Rattle.std.proofs.lemmas.List.{length-set}
use Rattle.std.proofs.lemmas.Simd.{length-put_chunk}
use Rattle.lane_int.proofs.ChunkKernelLemmas.{chunk_added}
use Rattle.lane_int.proofs.Overlay.{zip3_more_third, overlaid_all, length-zip3}
use Rattle.lane_int.proofs.kernels.multiply_add_chunks.Goals as goal

pub loop-values-preserved : goal.loop-values-preserved
loop-values-preserved g c =
    let at = c.loop-values.at in
    let m = c.loop-values.at + c.count-at.result in
    let same_length = c.loop-values.invariant.1 in
    let new = c.added_chunk.new.values in
    let long : length new ≡ length c.loop-values.values = ap length c.added_chunk.ensures ∙ length-put_chunk at c.loop-values.values _ in
    let is : m ≡ at + g.T.Lane.count = omega (arith, c.count-at.ensures.meaning) in
    let inside : m ≤ length c.loop-values.values = omega (arith, c.count-at.ensures.meaning, c.count.ensures.meaning, c.loop-values-test.true, c.loop-values.invariant.0) in (
      omega (arith, inside, long),
      long ∙ same_length,
      chunk_added (g.T.Lane.added_of c.args.op) at g.T.Lane.count m c.args.a.now c.args.b.now c.args.values.now c.loop-values.values new c.loop-values.invariant.2 is (omega (arith, inside, same_length)) c.requires.a_len c.requires.b_len c.added_chunk.ensures,
    )

pub loop-i-preserved : goal.loop-i-preserved
loop-i-preserved g c = (
  length-set c.loop-i.values c.loop-i.i c.multiply_add.result ∙ c.loop-i.invariant.0,
  zip3_more_third (g.T.Lane.added_of c.args.op) c.args.a.now c.args.b.now c.args.values.now c.loop-i.values c.loop-i.i c.index-a-i.result c.index-b-i.result c.index-values-i.result c.multiply_add.result c.loop-i.invariant.1 (omega (arith, c.loop-i.invariant.0, c.loop-i.auto.values)) c.requires.a_len c.requires.b_len c.index-a-i.is c.index-b-i.is c.index-values-i.is c.multiply_add.ensures,
)

pub returns : goal.returns
returns g c = overlaid_all c.loop-i.i _ c.args.values.now c.loop-i.values c.loop-i.invariant.1 (omega (arith, c.loop-i.invariant.0)) (length-zip3 (g.T.Lane.added_of c.args.op) c.args.a.now c.args.b.now c.args.values.now (c.requires.b_len ∙ sym c.requires.a_len) (sym c.requires.a_len) ∙ c.requires.a_len)
