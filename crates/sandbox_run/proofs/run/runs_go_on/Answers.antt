use Rattle.machine.specs.RunLemmas.{after-plus}
use Rattle.sandbox_run.proofs.run.runs_go_on.Goals as goal

pub returns : goal.returns
returns c = after-plus
