-- The lower bound is what is gained at least less what is lost at most.
use Rattle.std.proofs.Common.{arith}
use Rattle.std.proofs.lemmas.Grind.{common_steps}
use Rattle.linear_facts.specs.Differences.{is_positive}
use Rattle.linear_facts.proofs.differences.is_positive.Goals as goal

pub returns : goal.returns
unfolding is_positive
returns c = grind (arith, common_steps)
