use Rattle.std.proofs.Common.{w32}
use Rattle.lane_fixed.proofs.ChunkLaneLemmas.{no_zeros, amounts_fit, shifted_at}
use Rattle.lane_fixed.proofs.chunk_lanes.U32x4Chunk.shifted.Goals as goal

pub nonzero_rem-result : goal.nonzero_rem-result
nonzero_rem-result c = no_zeros w32 c.args.b 4

pub overflow_shr-result : goal.overflow_shr-result
overflow_shr-result c = amounts_fit w32 c.args.self c.args.b 4

pub returns : goal.returns
returns c i lt = shifted_at w32 c.args.self c.args.b 4 i c.fits-self.0 c.fits-b.0 lt
