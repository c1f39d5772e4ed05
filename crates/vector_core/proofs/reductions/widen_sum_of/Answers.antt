-- What `search` finds late, or not at all.
use Rattle.std.proofs.Common.{arith}
use Rattle.std.proofs.lemmas.Grind.{common_steps}
use Rattle.rv_decode.specs.Needs.{needs_of_reduce}
use Rattle.vector_core.specs.Reductions.{widen_sum_of, reduce_of}
use Rattle.vector_core.proofs.reductions.widen_sum_of.Goals as goal

pub read_body-requires : goal.read_body-requires
unfolding needs_of_reduce widen_sum_of reduce_of
read_body-requires g c = grind (arith, common_steps)
