-- The address is among the breakpoints.
use Rattle.std.proofs.Common.{arith}
use Rattle.std.proofs.lemmas.Grind.{common_steps}
use Rattle.monitor.proofs.breakpoints.set.Goals as goal

pub returns-clause-done : goal.returns-clause-done
returns-clause-done c = grind (arith, common_steps)
