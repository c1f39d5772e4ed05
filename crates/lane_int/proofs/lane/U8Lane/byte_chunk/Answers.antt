use Rattle.std.proofs.Common.{sym, w8}
use Rattle.lane_int.proofs.ByteLemmas.{computed_bytes, byte_alone}
use Rattle.lane_int.proofs.lane.U8Lane.byte_chunk.Goals as goal

pub returns : goal.returns
returns c =
    computed_bytes c.args.op w8 c.chunk_op.result 1 16 c.args.values c.args.b c.args.values c.args.b c.chunk_u8-results.result c.chunk_u8-results.result
    c.requires.call c.chunk_op.ensures c.chunk_u8-results.ensures c.fits-values.0 c.fits-b.0 (λ j lt. byte_alone j c.args.values) (λ j lt. byte_alone j c.args.b) (λ j lt. sym (byte_alone j c.chunk_u8-results.result))
