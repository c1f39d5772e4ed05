use Rattle.std.proofs.Common.{w16}
use Rattle.lane_fixed.proofs.ChunkLaneLemmas.{saturating_difference_at}
use Rattle.lane_fixed.proofs.chunk_lanes.U16x8Chunk.saturating_difference.Goals as goal

pub returns : goal.returns
returns c i lt = saturating_difference_at w16 c.args.self c.args.b 8 i c.fits-self c.fits-b lt
