use Rattle.std.proofs.Common.{arith}
use Rattle.std.proofs.lemmas.Grind.{common_steps}
use Rattle.sandbox_run.proofs.any_session.AnySession.vlen.Goals as goal

pub returns-in-V256 : goal.returns-in-V256
returns-in-V256 c = grind (arith, common_steps)
