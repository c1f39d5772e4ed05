-- The way is that of the numbers before the instruction.
use Rattle.std.proofs.Common.{arith}
use Rattle.std.proofs.lemmas.Grind.{common_steps}
use Rattle.abs_state.proofs.after.put.Goals as goal

pub returns-clause-way : goal.returns-clause-way
returns-clause-way g c = grind (arith, common_steps)
