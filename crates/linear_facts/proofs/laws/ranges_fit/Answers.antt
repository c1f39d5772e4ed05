use Rattle.linear_facts.specs.LocalityLemmas.{ranges-fit}
use Rattle.linear_facts.proofs.laws.ranges_fit.Goals as goal

pub returns : goal.returns
returns c = ranges-fit
