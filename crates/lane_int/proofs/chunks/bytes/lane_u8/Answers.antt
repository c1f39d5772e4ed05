use Rattle.std.proofs.Common.{arith}
use Rattle.lane_int.proofs.VectorLemmas.{zip3_lane}
use Rattle.lane_int.proofs.chunks.bytes.lane_u8.Goals as goal

pub returns : goal.returns
returns c = grind (arith, zip3_lane)
