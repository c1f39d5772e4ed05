use Rattle.std.proofs.Common.{w8, replicate}
use Rattle.lane_fixed.proofs.ChunkLaneLemmas.{no_zeros, amounts_fit, power_at}
use Rattle.lane_fixed.proofs.chunk_lanes.U8x16Chunk.power.Goals as goal

pub nonzero_rem-result : goal.nonzero_rem-result
nonzero_rem-result c = no_zeros w8 c.args.self 16

pub overflow_shl-result : goal.overflow_shl-result
overflow_shl-result c = amounts_fit w8 (replicate 16 1) c.args.self 16

pub returns : goal.returns
returns c i lt = power_at w8 c.args.self 16 i c.fits-self.0 lt
