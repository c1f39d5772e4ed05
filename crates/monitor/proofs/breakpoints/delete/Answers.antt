-- An address without a breakpoint is a fault.
use Rattle.std.proofs.Common.{arith}
use Rattle.std.proofs.lemmas.Grind.{common_steps}
use Rattle.monitor.proofs.breakpoints.delete.Goals as goal

pub returns-then-not-contains-clause-done : goal.returns-then-not-contains-clause-done
returns-then-not-contains-clause-done c = grind (arith, common_steps)
