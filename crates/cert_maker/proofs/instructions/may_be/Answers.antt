use Rattle.std.proofs.Common.{arith}
use Rattle.std.proofs.lemmas.Grind.{common_steps}
use Rattle.cert_maker.specs.Loops.{may_be}
use Rattle.cert_maker.proofs.instructions.may_be.Goals as goal

pub returns-in-Read : goal.returns-in-Read
unfolding may_be
returns-in-Read c = grind (arith, common_steps)
