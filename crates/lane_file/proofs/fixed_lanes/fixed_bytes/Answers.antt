use Rattle.std.proofs.Common.{sym, w8}
use Rattle.lane_fixed.specs.Chunks.{lane_flag, lane_result}
use Rattle.lane_int.specs.LaneLemmas.{byte_alone}
use Rattle.lane_file.proofs.Bytes.{lanes_of_two}
use Rattle.lane_file.proofs.fixed_lanes.fixed_bytes.Goals as goal

pub returns-clause-results : goal.returns-clause-results
returns-clause-results c =
    let rs = c.chunk_u8.result.0 in
    lanes_of_two (lane_result c.args.op w8) 1 16 c.args.values c.args.b c.args.values c.args.b rs rs
    c.chunk_u8.ensures.results c.fits-values.0 c.fits-b.0 (λ j lt. byte_alone j c.args.values) (λ j lt. byte_alone j c.args.b) (λ j lt. sym (byte_alone j rs))

pub returns-clause-flags : goal.returns-clause-flags
returns-clause-flags c =
    let rs = c.chunk_u8.result.1 in
    lanes_of_two (lane_flag c.args.op w8) 1 16 c.args.values c.args.b c.args.values c.args.b rs rs
    c.chunk_u8.ensures.flags c.fits-values.0 c.fits-b.0 (λ j lt. byte_alone j c.args.values) (λ j lt. byte_alone j c.args.b) (λ j lt. sym (byte_alone j rs))
