use Rattle.std.proofs.Common.{arith, w32}
use Rattle.lane_int.proofs.ChunkKernelLemmas.{tested_lane}
use Rattle.lane_int.proofs.lane.U32Lane.test_chunk.Goals as goal

pub returns : goal.returns
returns c = λ j d e lt. tested_lane w32 c.args.op 4 c.args.at j d e c.args.a.now c.args.b.now c.chunk_u32-results.result _ c.chunk_u32-results.ensures c.requires.a_room c.requires.b_room lt (c.loop-k.invariant.1 j (omega (arith, lt, c.loop-k-test.false)))
