-- The address of a buffer is known.
use Rattle.std.proofs.Common.{arith}
use Rattle.std.proofs.lemmas.Grind.{common_steps}
use Rattle.abs_domain.specs.Starts.{passed_value}
use Rattle.abs_domain.proofs.starts.passed_value.Goals as goal

pub returns-in-Buffer-clause-value : goal.returns-in-Buffer-clause-value
unfolding passed_value
returns-in-Buffer-clause-value c = grind (arith, common_steps)
