-- Each reason has its own error.
use Rattle.std.proofs.Common.{arith}
use Rattle.std.proofs.lemmas.Grind.{common_steps}
use Rattle.block_checker.proofs.errors.told.Goals as goal

pub returns-in-OrderNotProved-clause-value : goal.returns-in-OrderNotProved-clause-value
returns-in-OrderNotProved-clause-value c = grind (arith, common_steps)
