use Rattle.std.proofs.Common.{arith}
use Rattle.lane_int.proofs.VectorLemmas.{zip3_lane}
use Rattle.lane_int.proofs.chunks.words.lane_u32.Goals as goal

pub returns : goal.returns
returns c = grind (arith, zip3_lane)
