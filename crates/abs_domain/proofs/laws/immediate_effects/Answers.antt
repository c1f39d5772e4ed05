use Rattle.abs_domain.specs.OperationLemmas.{immediate_describes}
use Rattle.abs_domain.proofs.laws.immediate_effects.Goals as goal

pub returns : goal.returns
returns c = immediate_describes
