use Rattle.sandbox_run.proofs.HostLemmas.{steps_are_unique}
use Rattle.sandbox_run.proofs.laws.steps_are_unique.Goals as goal

pub returns : goal.returns
returns c = steps_are_unique
