use Rattle.std.proofs.Common.{w32}
use Rattle.lane_fixed.specs.Chunks.{lane_flag, lane_result}
use Rattle.lane_file.proofs.Bytes.{lanes_of_two}
use Rattle.lane_file.proofs.fixed_lanes.fixed_words.Goals as goal

pub returns-clause-results : goal.returns-clause-results
returns-clause-results c =
    lanes_of_two (lane_result c.args.op w32) 4 4 c.args.values c.args.b c.words_in-lanes.result c.words_in-others.result c.chunk_u32-both.result.0 c.bytes_of_words-results.result
    c.chunk_u32-both.ensures.results c.words_in-lanes.ensures.count c.words_in-others.ensures.count c.words_in-lanes.ensures.lanes c.words_in-others.ensures.lanes c.bytes_of_words-results.ensures

pub returns-clause-flags : goal.returns-clause-flags
returns-clause-flags c =
    lanes_of_two (lane_flag c.args.op w32) 4 4 c.args.values c.args.b c.words_in-lanes.result c.words_in-others.result c.chunk_u32-both.result.1 c.bytes_of_words-flags.result
    c.chunk_u32-both.ensures.flags c.words_in-lanes.ensures.count c.words_in-others.ensures.count c.words_in-lanes.ensures.lanes c.words_in-others.ensures.lanes c.bytes_of_words-flags.ensures
