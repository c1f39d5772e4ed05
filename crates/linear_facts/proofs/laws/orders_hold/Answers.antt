use Rattle.linear_facts.specs.DifferenceLemmas.{orders-hold}
use Rattle.linear_facts.proofs.laws.orders_hold.Goals as goal

pub returns : goal.returns
returns c = orders-hold
