use Rattle.sandbox_run.proofs.HostLemmas.{more_steps_change_nothing}
use Rattle.sandbox_run.proofs.laws.more_steps_change_nothing.Goals as goal

pub returns : goal.returns
returns c = more_steps_change_nothing
