use Rattle.std.proofs.Common.{w16}
use Rattle.lane_int.proofs.ByteLemmas.{computed_bytes}
use Rattle.lane_int.proofs.lane.U16Lane.byte_chunk.Goals as goal

pub returns : goal.returns
returns c =
    computed_bytes c.args.op w16 c.chunk_op.result 2 8 c.args.values c.args.b c.halves_in-lanes.result c.halves_in-others.result c.chunk_u16-results.result c.bytes_of_halves.result
    c.requires.call c.chunk_op.ensures c.chunk_u16-results.ensures c.halves_in-lanes.ensures.count c.halves_in-others.ensures.count c.halves_in-lanes.ensures.lanes c.halves_in-others.ensures.lanes c.bytes_of_halves.ensures
