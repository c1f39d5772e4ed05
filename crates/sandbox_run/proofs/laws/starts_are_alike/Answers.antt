use Rattle.sandbox_run.proofs.HostLemmas.{starts_are_alike}
use Rattle.sandbox_run.proofs.laws.starts_are_alike.Goals as goal

pub returns : goal.returns
returns c = starts_are_alike
