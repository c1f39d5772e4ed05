use Rattle.linear_facts.specs.LoopRangeLemmas.{moved-range}
use Rattle.linear_facts.proofs.loops.moved_range.Goals as goal

pub returns : goal.returns
returns c = moved-range
