use Rattle.std.proofs.Common.{rules, w8}
use Rattle.lane_fixed.specs.Chunks.{lane_flag, lane_result}
use Rattle.lane_fixed.proofs.ChunkLaneLemmas.{lane_below, from_lanes}
use Rattle.lane_fixed.proofs.chunks.chunk_u8.Goals as goal

pub computed-requires : goal.computed-requires
computed-requires c = record { a_fits = lane_below w8 16 c.args.values c.fits-values; b_fits = lane_below w8 16 c.args.b c.fits-b }

pub returns : goal.returns
returns c = record { results = from_lanes (lane_result c.args.op w8) 16 c.args.values c.args.b c.computed.result.0 c.fits-values.0 c.fits-b.0 (search rules) c.computed.ensures.results; flags = from_lanes (lane_flag c.args.op w8) 16 c.args.values c.args.b c.computed.result.1 c.fits-values.0 c.fits-b.0 (search rules) c.computed.ensures.flags }
