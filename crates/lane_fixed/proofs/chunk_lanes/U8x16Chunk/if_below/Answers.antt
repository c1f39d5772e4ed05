use Rattle.std.proofs.Common.{w8, nat_lt}
use Rattle.lane_fixed.proofs.ChunkLaneLemmas.{sel_at}
use Rattle.lane_fixed.proofs.chunk_lanes.U8x16Chunk.if_below.Goals as goal

pub returns : goal.returns
returns c i lt = sel_at w8 nat_lt c.args.self c.args.b c.args.yes c.args.no 16 i c.fits-self.0 c.fits-b.0 c.fits-yes.0 c.fits-no.0 lt
