use Rattle.std.proofs.Common.{w32, replicate}
use Rattle.lane_fixed.proofs.ChunkLaneLemmas.{no_zeros, amounts_fit, power_at}
use Rattle.lane_fixed.proofs.chunk_lanes.U32x4Chunk.power.Goals as goal

pub nonzero_rem-result : goal.nonzero_rem-result
nonzero_rem-result c = no_zeros w32 c.args.self 4

pub overflow_shl-result : goal.overflow_shl-result
overflow_shl-result c = amounts_fit w32 (replicate 4 1) c.args.self 4

pub returns : goal.returns
returns c i lt = power_at w32 c.args.self 4 i c.fits-self.0 lt
