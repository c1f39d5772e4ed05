-- A load is allowed by the range of its address and its size.
use Rattle.std.proofs.Common.{arith}
use Rattle.std.proofs.lemmas.Grind.{common_steps}
use Rattle.abs_transfer.specs.Scalar.{if_allowed, load_check}
use Rattle.abs_transfer.proofs.scalar.load.Goals as goal

pub returns-clause-ok : goal.returns-clause-ok
unfolding if_allowed load_check
returns-clause-ok g c = grind (arith, common_steps)
