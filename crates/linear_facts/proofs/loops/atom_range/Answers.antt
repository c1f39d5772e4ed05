use Rattle.linear_facts.specs.LoopRangeLemmas.{atom-range}
use Rattle.linear_facts.proofs.loops.atom_range.Goals as goal

pub returns : goal.returns
returns c = atom-range
