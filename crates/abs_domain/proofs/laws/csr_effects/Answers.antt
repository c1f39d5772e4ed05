use Rattle.abs_domain.specs.OperationLemmas.{csr_describes}
use Rattle.abs_domain.proofs.laws.csr_effects.Goals as goal

pub returns : goal.returns
returns c = csr_describes
