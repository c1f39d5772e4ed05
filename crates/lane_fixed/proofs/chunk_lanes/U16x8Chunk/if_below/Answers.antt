use Rattle.std.proofs.Common.{w16, nat_lt}
use Rattle.lane_fixed.proofs.ChunkLaneLemmas.{sel_at}
use Rattle.lane_fixed.proofs.chunk_lanes.U16x8Chunk.if_below.Goals as goal

pub returns : goal.returns
returns c i lt = sel_at w16 nat_lt c.args.self c.args.b c.args.yes c.args.no 8 i c.fits-self.0 c.fits-b.0 c.fits-yes.0 c.fits-no.0 lt
