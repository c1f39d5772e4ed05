use Rattle.linear_facts.specs.LoopRangeLemmas.{same-paid}
use Rattle.linear_facts.proofs.loops.same_paid.Goals as goal

pub returns : goal.returns
returns c = same-paid
