use Rattle.abs_domain.specs.StateLemmas.{result_holds}
use Rattle.abs_domain.proofs.laws.results_hold.Goals as goal

pub returns : goal.returns
returns c = result_holds
