use Rattle.linear_facts.specs.LoopRangeLemmas.{left-range}
use Rattle.linear_facts.proofs.loops.left_range.Goals as goal

pub returns : goal.returns
returns c = left-range
