use Rattle.abs_domain.specs.OperationLemmas.{load_describes}
use Rattle.abs_domain.proofs.laws.load_effects.Goals as goal

pub returns : goal.returns
returns c = load_describes
