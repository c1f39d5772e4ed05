use Rattle.linear_facts.specs.LocalityLemmas.{sums-stay}
use Rattle.linear_facts.proofs.laws.sums_stay_below.Goals as goal

pub returns : goal.returns
returns c = sums-stay
