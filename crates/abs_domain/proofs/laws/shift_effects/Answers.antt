use Rattle.abs_domain.specs.OperationLemmas.{shift_describes}
use Rattle.abs_domain.proofs.laws.shift_effects.Goals as goal

pub returns : goal.returns
returns c = shift_describes
