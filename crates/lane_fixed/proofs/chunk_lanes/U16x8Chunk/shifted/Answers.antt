use Rattle.std.proofs.Common.{w16}
use Rattle.lane_fixed.proofs.ChunkLaneLemmas.{no_zeros, amounts_fit, shifted_at}
use Rattle.lane_fixed.proofs.chunk_lanes.U16x8Chunk.shifted.Goals as goal

pub nonzero_rem-result : goal.nonzero_rem-result
nonzero_rem-result c = no_zeros w16 c.args.b 8

pub overflow_shr-result : goal.overflow_shr-result
overflow_shr-result c = amounts_fit w16 c.args.self c.args.b 8

pub returns : goal.returns
returns c i lt = shifted_at w16 c.args.self c.args.b 8 i c.fits-self.0 c.fits-b.0 lt
