use Rattle.std.proofs.Common.{arith}
use Rattle.std.proofs.lemmas.Grind.{common_steps}
use Rattle.scalar_core.specs.Step.{store_step, store_from}
use Rattle.scalar_core.proofs.transfers.store.Goals as goal

pub returns-then-not-stored : goal.returns-then-not-stored
unfolding store_step store_from
returns-then-not-stored g c = grind (arith, common_steps)
