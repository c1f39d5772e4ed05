-- What is passed at a place is read there.
use Rattle.std.proofs.Common.{arith}
use Rattle.std.proofs.lemmas.Grind.{common_steps}
use Rattle.block_checker.proofs.accepted.start_number.Goals as goal

pub returns-in-Passed : goal.returns-in-Passed
returns-in-Passed c = grind (arith, common_steps)
