use Rattle.lane_fixed.proofs.ChunkLemmas.{signed_sum_is}
use Rattle.lane_fixed.proofs.chunks.signed_sum.Goals as goal

pub returns : goal.returns
returns g c i lt =
    rw (c.sum.ensures i lt, c.if_below.ensures i lt, c.saturating_sum-with_b.ensures i lt, c.saturating_difference-without.ensures i lt, c.sum-raised.ensures i lt, c.difference-negated.ensures i lt, c.zero.ensures i lt, c.top.ensures i lt, c.top-2.ensures i lt, c.top-3.ensures i lt)
    (signed_sum_is g.T.Chunk.width (g.T.Chunk.lane c.args.a i) (g.T.Chunk.lane c.args.b i) (c.requires.a_fits i lt) (c.requires.b_fits i lt))
