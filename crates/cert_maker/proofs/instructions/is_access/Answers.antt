use Rattle.std.proofs.Common.{arith}
use Rattle.std.proofs.lemmas.Grind.{common_steps}
use Rattle.cert_maker.specs.Loops.{is_access}
use Rattle.cert_maker.proofs.instructions.is_access.Goals as goal

pub returns-in-Some : goal.returns-in-Some
unfolding is_access
returns-in-Some c = grind (arith, common_steps)
