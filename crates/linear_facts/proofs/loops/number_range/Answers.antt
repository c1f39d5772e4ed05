use Rattle.linear_facts.specs.LoopRangeLemmas.{number-range}
use Rattle.linear_facts.proofs.loops.number_range.Goals as goal

pub returns : goal.returns
returns c = number-range
