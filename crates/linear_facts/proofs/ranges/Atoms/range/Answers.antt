-- A range that stands in place of the atom's own comes first.
use Rattle.std.proofs.Common.{arith}
use Rattle.std.proofs.lemmas.Grind.{common_steps}
use Rattle.linear_facts.specs.Ranges.{range_at}
use Rattle.linear_facts.proofs.ranges.Atoms.range.Goals as goal

pub returns : goal.returns
unfolding range_at
returns c = grind (arith, common_steps)
