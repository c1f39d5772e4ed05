use Rattle.std.proofs.Common.{arith, w16}
use Rattle.lane_int.proofs.ChunkKernelLemmas.{tested_lane}
use Rattle.lane_int.proofs.lane.U16Lane.test_chunk.Goals as goal

pub returns : goal.returns
returns c = λ j d e lt. tested_lane w16 c.args.op 8 c.args.at j d e c.args.a.now c.args.b.now c.chunk_u16-results.result _ c.chunk_u16-results.ensures c.requires.a_room c.requires.b_room lt (c.loop-k.invariant.1 j (omega (arith, lt, c.loop-k-test.false)))
