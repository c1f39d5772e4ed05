use Rattle.std.proofs.Common.{arith}
use Rattle.std.proofs.lemmas.Grind.{common_steps}
use Rattle.machine.specs.MachineStep.{carry_out}
use Rattle.machine.proofs.memo.carry_out.Goals as goal

pub returns-in-Scalar : goal.returns-in-Scalar
unfolding carry_out
returns-in-Scalar g c = grind (arith, common_steps)

pub returns-in-VSet : goal.returns-in-VSet
unfolding carry_out
returns-in-VSet g c = grind (arith, common_steps)
