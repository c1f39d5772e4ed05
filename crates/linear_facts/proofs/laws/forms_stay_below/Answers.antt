use Rattle.linear_facts.specs.LocalityLemmas.{forms-stay}
use Rattle.linear_facts.proofs.laws.forms_stay_below.Goals as goal

pub returns : goal.returns
returns c = forms-stay
