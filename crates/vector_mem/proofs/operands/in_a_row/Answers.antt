use Rattle.std.proofs.Common.{arith}
use Rattle.std.proofs.lemmas.Grind.{common_steps}
use Rattle.vector_mem.proofs.operands.in_a_row.Goals as goal

pub returns-in-Unit : goal.returns-in-Unit
returns-in-Unit c = grind (arith, common_steps)
