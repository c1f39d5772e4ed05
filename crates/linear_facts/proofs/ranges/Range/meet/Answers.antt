-- The greater of the lower ends and the lesser of the upper ones.
use Rattle.std.proofs.Common.{arith}
use Rattle.std.proofs.lemmas.Grind.{common_steps}
use Rattle.linear_facts.proofs.ranges.Range.meet.Goals as goal

pub returns-then-lo-hi : goal.returns-then-lo-hi
returns-then-lo-hi c = grind (arith, common_steps)
