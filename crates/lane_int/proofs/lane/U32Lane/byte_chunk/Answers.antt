use Rattle.std.proofs.Common.{w32}
use Rattle.lane_int.proofs.ByteLemmas.{computed_bytes}
use Rattle.lane_int.proofs.lane.U32Lane.byte_chunk.Goals as goal

pub returns : goal.returns
returns c =
    computed_bytes c.args.op w32 c.chunk_op.result 4 4 c.args.values c.args.b c.words_in-lanes.result c.words_in-others.result c.chunk_u32-results.result c.bytes_of_words.result
    c.requires.call c.chunk_op.ensures c.chunk_u32-results.ensures c.words_in-lanes.ensures.count c.words_in-others.ensures.count c.words_in-lanes.ensures.lanes c.words_in-others.ensures.lanes c.bytes_of_words.ensures
