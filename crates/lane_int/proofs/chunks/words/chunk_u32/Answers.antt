use Rattle.std.proofs.Common.{arith}
use Rattle.lane_int.proofs.ChunkLemmas.{lanes_of_each}
use Rattle.lane_int.proofs.chunks.words.chunk_u32.Goals as goal

pub returns : goal.returns
returns c = grind (arith, lanes_of_each)
