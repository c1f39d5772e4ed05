use Rattle.linear_facts.specs.LocalityLemmas.{substitutions-stay}
use Rattle.linear_facts.proofs.laws.substitutions_stay_below.Goals as goal

pub returns : goal.returns
returns c = substitutions-stay
