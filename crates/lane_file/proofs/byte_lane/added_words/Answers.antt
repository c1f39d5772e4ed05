use Rattle.std.proofs.Common.{w32}
use Rattle.lane_int.specs.Chunks.{lane_of}
use Rattle.lane_int.specs.Integer.{multiply_added}
use Rattle.lane_file.proofs.Bytes.{lanes_of_three}
use Rattle.lane_file.proofs.byte_lane.added_words.Goals as goal

pub returns : goal.returns
unfolding lane_of
returns c =
    lanes_of_three (multiply_added c.args.op w32) 4 4 c.args.values c.args.b c.args.old c.words_in-lanes.result c.words_in-others.result c.words_in-before.result c.chunk_u32-results.result c.bytes_of_words.result
    c.chunk_u32-results.ensures c.words_in-lanes.ensures.count c.words_in-others.ensures.count c.words_in-before.ensures.count c.words_in-lanes.ensures.lanes c.words_in-others.ensures.lanes c.words_in-before.ensures.lanes c.bytes_of_words.ensures
