use Rattle.abs_domain.specs.OperationLemmas.{constant_describes}
use Rattle.abs_domain.proofs.laws.constant_effects.Goals as goal

pub returns : goal.returns
returns c = constant_describes
