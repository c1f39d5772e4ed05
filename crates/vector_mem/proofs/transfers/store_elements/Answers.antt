use Rattle.std.proofs.Common.{arith}
use Rattle.std.proofs.lemmas.Grind.{common_steps}
use Rattle.vector_mem.specs.Accesses.{stored}
use Rattle.vector_mem.proofs.transfers.store_elements.Goals as goal

pub bounds-values-access : goal.bounds-values-access
unfolding stored
bounds-values-access c = grind arith

pub loop-access-preserved : goal.loop-access-preserved
unfolding stored
loop-access-preserved g c = grind (arith, common_steps)

pub returns : goal.returns
unfolding stored
returns g c = grind (arith, common_steps)
