-- A stride from 2^31 on is a negative one.
use Rattle.std.proofs.Common.{arith}
use Rattle.std.proofs.lemmas.Grind.{common_steps}
use Rattle.abs_transfer.specs.Accesses.{strided_reach}
use Rattle.abs_transfer.proofs.accesses.strided_reach.Goals as goal

pub returns-else-n : goal.returns-else-n
unfolding strided_reach
returns-else-n g c = grind (arith, common_steps)
