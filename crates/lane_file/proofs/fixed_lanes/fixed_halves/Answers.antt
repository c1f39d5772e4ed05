use Rattle.std.proofs.Common.{w16}
use Rattle.lane_fixed.specs.Chunks.{lane_flag, lane_result}
use Rattle.lane_file.proofs.Bytes.{lanes_of_two}
use Rattle.lane_file.proofs.fixed_lanes.fixed_halves.Goals as goal

pub returns-clause-results : goal.returns-clause-results
returns-clause-results c =
    lanes_of_two (lane_result c.args.op w16) 2 8 c.args.values c.args.b c.halves_in-lanes.result c.halves_in-others.result c.chunk_u16-both.result.0 c.bytes_of_halves-results.result
    c.chunk_u16-both.ensures.results c.halves_in-lanes.ensures.count c.halves_in-others.ensures.count c.halves_in-lanes.ensures.lanes c.halves_in-others.ensures.lanes c.bytes_of_halves-results.ensures

pub returns-clause-flags : goal.returns-clause-flags
returns-clause-flags c =
    lanes_of_two (lane_flag c.args.op w16) 2 8 c.args.values c.args.b c.halves_in-lanes.result c.halves_in-others.result c.chunk_u16-both.result.1 c.bytes_of_halves-flags.result
    c.chunk_u16-both.ensures.flags c.halves_in-lanes.ensures.count c.halves_in-others.ensures.count c.halves_in-lanes.ensures.lanes c.halves_in-others.ensures.lanes c.bytes_of_halves-flags.ensures
