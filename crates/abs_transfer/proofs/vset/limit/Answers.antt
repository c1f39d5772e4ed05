-- The number that limits vl is the sum of vl and of the rest.
use Rattle.std.proofs.Common.{arith}
use Rattle.std.proofs.lemmas.Grind.{common_steps}
use Rattle.abs_transfer.specs.Vset.{limited_by, split_into}
use Rattle.abs_transfer.proofs.vset.limit.Goals as goal

pub returns-in-Some : goal.returns-in-Some
unfolding limited_by split_into
returns-in-Some g c = grind (arith, common_steps)
