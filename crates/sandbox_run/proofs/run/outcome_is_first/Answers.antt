use Rattle.machine.specs.RunLemmas.{outcome-is}
use Rattle.sandbox_run.proofs.run.outcome_is_first.Goals as goal

pub returns : goal.returns
returns c = outcome-is
