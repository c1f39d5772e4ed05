-- At most the number of steps asked for is done.
use Rattle.std.proofs.Common.{arith}
use Rattle.std.proofs.lemmas.Grind.{common_steps}
use Rattle.monitor.proofs.monitor.Monitor.carry.Goals as goal

pub returns-in-Step-clause-done : goal.returns-in-Step-clause-done
returns-in-Step-clause-done g c = grind (arith, common_steps)
