use Rattle.std.proofs.Common.{rules}
use Rattle.machine.specs.MachineStep.{step}
use Rattle.machine.proofs.machine.Machine.step.Goals as goal

pub returns-in_default : goal.returns-in_default
unfolding step
returns-in_default g c = search rules
