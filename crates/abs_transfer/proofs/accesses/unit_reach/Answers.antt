-- The reach of elements in a row ends at the most vl.
use Rattle.std.proofs.Common.{arith}
use Rattle.std.proofs.lemmas.Grind.{common_steps}
use Rattle.abs_transfer.specs.Accesses.{unit_reach}
use Rattle.abs_transfer.proofs.accesses.unit_reach.Goals as goal

pub returns : goal.returns
unfolding unit_reach
returns g c = grind (arith, common_steps)
