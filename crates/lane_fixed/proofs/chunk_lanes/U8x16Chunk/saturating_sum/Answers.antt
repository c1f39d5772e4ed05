use Rattle.std.proofs.Common.{w8}
use Rattle.lane_fixed.proofs.ChunkLaneLemmas.{saturating_sum_at}
use Rattle.lane_fixed.proofs.chunk_lanes.U8x16Chunk.saturating_sum.Goals as goal

pub returns : goal.returns
returns c i lt = saturating_sum_at w8 c.args.self c.args.b 16 i c.fits-self c.fits-b lt
