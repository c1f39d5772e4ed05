use Rattle.std.proofs.Common.{arith}
use Rattle.std.proofs.lemmas.Grind.{common_steps}
use Rattle.cert_maker.proofs.errors.MakeErrorDisplay.fmt.Goals as goal

pub returns-in-NotALoopOfTheClass-clause-writes : goal.returns-in-NotALoopOfTheClass-clause-writes
returns-in-NotALoopOfTheClass-clause-writes g c = grind (arith, common_steps)
