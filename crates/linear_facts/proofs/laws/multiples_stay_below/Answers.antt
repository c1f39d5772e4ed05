use Rattle.linear_facts.specs.LocalityLemmas.{multiples-stay}
use Rattle.linear_facts.proofs.laws.multiples_stay_below.Goals as goal

pub returns : goal.returns
returns c = multiples-stay
