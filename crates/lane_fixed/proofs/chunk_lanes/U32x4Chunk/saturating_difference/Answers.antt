use Rattle.std.proofs.Common.{w32}
use Rattle.lane_fixed.proofs.ChunkLaneLemmas.{saturating_difference_at}
use Rattle.lane_fixed.proofs.chunk_lanes.U32x4Chunk.saturating_difference.Goals as goal

pub returns : goal.returns
returns c i lt = saturating_difference_at w32 c.args.self c.args.b 4 i c.fits-self c.fits-b lt
