use Rattle.std.proofs.Common.{rules, ◌==◌, arith, not, w8}
use Rattle.std.proofs.lemmas.Simd.{bitmask_splat}
use Rattle.lane_fixed.proofs.ChunkKernelLemmas.{chunk_flags_say}
use Rattle.lane_fixed.proofs.lane.U8FixedLane.chunk.Goals as goal

pub returns-clause-saturated : goal.returns-clause-saturated
returns-clause-saturated c =
    let flags = c.chunk_u8.result.1 in
    chunk_flags_say w8 c.args.op 16 c.args.at c.args.values.now c.args.b.now flags c.args.active.now c.args.so_far c.or_flagged.result c.chunk_u8.ensures.flags (bitmask_splat w8 (λ a b. not (a == b)) flags 16 0 (search rules) (omega arith)) c.or_flagged.ensures
