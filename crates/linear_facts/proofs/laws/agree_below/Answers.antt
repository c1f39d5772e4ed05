use Rattle.linear_facts.specs.LocalityLemmas.{agree-below}
use Rattle.linear_facts.proofs.laws.agree_below.Goals as goal

pub returns : goal.returns
returns c = agree-below
