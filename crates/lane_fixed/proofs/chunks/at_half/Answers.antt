use Rattle.lane_fixed.proofs.RoundedLaneLemmas.{at_half_is}
use Rattle.std.proofs.Common.{◌^◌}
use mir.Val.{bits}
use Rattle.lane_fixed.proofs.chunks.at_half.Goals as goal

pub returns : goal.returns
returns g c i lt below few fits =
    rw (c.if_below.ensures i lt, c.difference.ensures i lt, c.sum.ensures i lt, c.one.ensures i lt, c.zero.ensures i lt)
    (at_half_is (2 ^ bits g.T.Chunk.width) (g.T.Chunk.lane c.args.power i) (g.T.Chunk.lane c.args.rest i) (g.T.Chunk.lane c.args.extra i) below few fits)
