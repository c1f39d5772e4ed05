use Rattle.std.proofs.Common.{w16}
use Rattle.lane_int.specs.Chunks.{lane_of}
use Rattle.lane_int.specs.Integer.{multiply_added}
use Rattle.lane_file.proofs.Bytes.{lanes_of_three}
use Rattle.lane_file.proofs.byte_lane.added_halves.Goals as goal

pub returns : goal.returns
unfolding lane_of
returns c =
    lanes_of_three (multiply_added c.args.op w16) 2 8 c.args.values c.args.b c.args.old c.halves_in-lanes.result c.halves_in-others.result c.halves_in-before.result c.chunk_u16-results.result c.bytes_of_halves.result
    c.chunk_u16-results.ensures c.halves_in-lanes.ensures.count c.halves_in-others.ensures.count c.halves_in-before.ensures.count c.halves_in-lanes.ensures.lanes c.halves_in-others.ensures.lanes c.halves_in-before.ensures.lanes c.bytes_of_halves.ensures
