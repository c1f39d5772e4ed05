use Rattle.std.proofs.Common.{arith}
use Rattle.std.proofs.lemmas.Grind.{common_steps}
use Rattle.scalar_core.specs.Entry.{entry_value}
use Rattle.scalar_core.proofs.entry.entry_value.Goals as goal

pub returns-then-register-eq2-clause-value : goal.returns-then-register-eq2-clause-value
unfolding entry_value
returns-then-register-eq2-clause-value c = grind (arith, common_steps)
