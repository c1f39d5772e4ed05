use Rattle.linear_facts.specs.LoopRangeLemmas.{pointer-range}
use Rattle.linear_facts.proofs.loops.pointer_range.Goals as goal

pub returns : goal.returns
returns c = pointer-range
