-- Where both ends have one quotient, the range is what is left of them.
use Rattle.std.proofs.Common.{arith}
use Rattle.std.proofs.lemmas.Grind.{common_steps}
use Rattle.linear_facts.specs.Sums.{range_within}
use Rattle.linear_facts.proofs.sums.range_in.Goals as goal

pub returns-then-interval-modulus : goal.returns-then-interval-modulus
unfolding range_within
returns-then-interval-modulus c = grind (arith, common_steps)
