use Rattle.std.proofs.Common.{arith}
use Rattle.std.proofs.lemmas.Grind.{common_steps}
use Rattle.monitor.proofs.monitor.Monitor.tell.Goals as goal

pub returns-in-Step : goal.returns-in-Step
returns-in-Step g c = grind (arith, common_steps)
