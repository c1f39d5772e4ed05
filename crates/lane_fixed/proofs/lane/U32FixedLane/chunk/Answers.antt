use Rattle.std.proofs.Common.{rules, ◌==◌, arith, not, w32}
use Rattle.std.proofs.lemmas.Simd.{bitmask_splat}
use Rattle.lane_fixed.proofs.ChunkKernelLemmas.{chunk_flags_say}
use Rattle.lane_fixed.proofs.lane.U32FixedLane.chunk.Goals as goal

pub returns-clause-saturated : goal.returns-clause-saturated
returns-clause-saturated c =
    let flags = c.chunk_u32.result.1 in
    chunk_flags_say w32 c.args.op 4 c.args.at c.args.values.now c.args.b.now flags c.args.active.now c.args.so_far c.or_flagged.result c.chunk_u32.ensures.flags (bitmask_splat w32 (λ a b. not (a == b)) flags 4 0 (search rules) (omega arith)) c.or_flagged.ensures
