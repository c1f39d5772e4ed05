use Rattle.std.proofs.Common.{w16, replicate}
use Rattle.lane_fixed.proofs.ChunkLaneLemmas.{no_zeros, amounts_fit, power_at}
use Rattle.lane_fixed.proofs.chunk_lanes.U16x8Chunk.power.Goals as goal

pub nonzero_rem-result : goal.nonzero_rem-result
nonzero_rem-result c = no_zeros w16 c.args.self 8

pub overflow_shl-result : goal.overflow_shl-result
overflow_shl-result c = amounts_fit w16 (replicate 8 1) c.args.self 8

pub returns : goal.returns
returns c i lt = power_at w16 c.args.self 8 i c.fits-self.0 lt
