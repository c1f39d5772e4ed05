use Rattle.std.proofs.lemmas.Grind.{common_steps}
use Rattle.std.proofs.Common.{rules, ◌==◌, arith, not, w16}
use Rattle.std.proofs.lemmas.Simd.{bitmask_splat}
use Rattle.lane_fixed.proofs.ChunkKernelLemmas.{chunk_flags_say}
use Rattle.lane_fixed.proofs.lane.U16FixedLane.chunk.Goals as goal

pub returns-clause-saturated : goal.returns-clause-saturated
returns-clause-saturated c =
    let flags = c.chunk_u16.result.1 in
    chunk_flags_say w16 c.args.op 8 c.args.at c.args.values.now c.args.b.now flags c.args.active.now c.args.so_far c.or_flagged.result c.chunk_u16.ensures.flags (bitmask_splat w16 (λ a b. not (a == b)) flags 8 0 (search rules) (omega arith)) c.or_flagged.ensures

pub returns-clause-results : goal.returns-clause-results
returns-clause-results c = grind (arith, common_steps)
