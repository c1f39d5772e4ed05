use Rattle.std.proofs.Common.{arith}
use Rattle.std.proofs.lemmas.Grind.{common_steps}
use Rattle.vector_mem.proofs.operands.width.Goals as goal

pub returns-in-Indexed : goal.returns-in-Indexed
returns-in-Indexed c = grind (arith, common_steps)
