use Rattle.std.proofs.Common.{arith}
use Rattle.std.proofs.lemmas.Grind.{common_steps}
use Rattle.cert_maker.proofs.errors.MakeError.address.Goals as goal

pub returns-in-NotALoopOfTheClass : goal.returns-in-NotALoopOfTheClass
returns-in-NotALoopOfTheClass c = grind (arith, common_steps)
