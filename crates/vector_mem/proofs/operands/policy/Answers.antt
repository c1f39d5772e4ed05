use Rattle.std.proofs.Common.{arith}
use Rattle.std.proofs.lemmas.Grind.{common_steps}
use Rattle.vector_mem.proofs.operands.policy.Goals as goal

pub returns-in-Mask : goal.returns-in-Mask
returns-in-Mask c = grind (arith, common_steps)
