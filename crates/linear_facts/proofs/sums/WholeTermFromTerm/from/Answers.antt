-- A coefficient below 2^31 is its own signed number.
use Rattle.std.proofs.Common.{arith}
use Rattle.std.proofs.lemmas.Grind.{common_steps}
use Rattle.linear_facts.specs.Sums.{signed_term}
use Rattle.linear_facts.proofs.sums.WholeTermFromTerm.from.Goals as goal

pub returns-then-coefficient : goal.returns-then-coefficient
unfolding signed_term
returns-then-coefficient c = grind (arith, common_steps)
