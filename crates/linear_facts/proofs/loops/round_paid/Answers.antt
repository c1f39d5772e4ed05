use Rattle.linear_facts.specs.LoopRangeLemmas.{round-paid}
use Rattle.linear_facts.proofs.loops.round_paid.Goals as goal

pub returns : goal.returns
returns c = round-paid
