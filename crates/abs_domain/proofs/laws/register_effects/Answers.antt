use Rattle.abs_domain.specs.OperationLemmas.{register_describes}
use Rattle.abs_domain.proofs.laws.register_effects.Goals as goal

pub returns : goal.returns
returns c = register_describes
