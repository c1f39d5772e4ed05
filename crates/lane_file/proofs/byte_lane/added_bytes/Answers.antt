use Rattle.std.proofs.Common.{sym, w8}
use Rattle.lane_int.specs.Chunks.{lane_of}
use Rattle.lane_int.specs.Integer.{multiply_added}
use Rattle.lane_int.specs.LaneLemmas.{byte_alone}
use Rattle.lane_file.proofs.Bytes.{lanes_of_three}
use Rattle.lane_file.proofs.byte_lane.added_bytes.Goals as goal

pub returns : goal.returns
unfolding lane_of
returns c =
    lanes_of_three (multiply_added c.args.op w8) 1 16 c.args.values c.args.b c.args.old c.args.values c.args.b c.args.old c.chunk_u8.result c.chunk_u8.result
    c.chunk_u8.ensures c.fits-values.0 c.fits-b.0 c.fits-old.0 (λ j lt. byte_alone j c.args.values) (λ j lt. byte_alone j c.args.b) (λ j lt. byte_alone j c.args.old) (λ j lt. sym (byte_alone j c.chunk_u8.result))
