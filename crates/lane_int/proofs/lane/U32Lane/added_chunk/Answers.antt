use Rattle.std.proofs.Common.{ap}
use lib.Lanes.{put_chunk}
use Rattle.lane_int.specs.Chunks.{lane_of}
use Rattle.lane_int.proofs.lane.U32Lane.added_chunk.Goals as goal

pub returns : goal.returns
unfolding lane_of
returns c = ap (put_chunk c.args.at c.args.values.now) c.chunk_u32-results.ensures
