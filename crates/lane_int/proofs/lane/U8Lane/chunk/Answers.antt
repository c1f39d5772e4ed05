use Rattle.std.proofs.Common.{◌∙◌, ap, w8}
use lib.Lanes.{chunk, put_chunk}
use Rattle.lane_int.specs.Chunks.{lane_of}
use Rattle.lane_int.specs.Lists.{zip3}
use Rattle.lane_int.proofs.ChunkKernelLemmas.{computed_lanes}
use Rattle.lane_int.proofs.lane.U8Lane.chunk.Goals as goal

pub returns : goal.returns
returns c =
    let xs = chunk c.args.at 16 c.args.values.now in
    let ys = chunk c.args.at 16 c.args.b.now in
    ap (put_chunk c.args.at c.args.values.now)
    (c.chunk_u8-results.ensures
    ∙ ap (λ op. zip3 (lane_of op w8) xs ys xs) c.chunk_op.ensures
    ∙ computed_lanes c.args.op w8 16 c.args.at c.args.values.now c.args.b.now c.requires.call c.requires.values_room c.requires.b_room)
