use Rattle.std.proofs.Common.{arith}
use Rattle.lane_fixed.proofs.chunk_lanes.U32x4Chunk.ones.Goals as goal

pub returns : goal.returns
returns c = grind arith
