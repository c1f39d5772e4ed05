use Rattle.std.proofs.Common.{arith}
use Rattle.std.proofs.lemmas.Grind.{common_steps}
use Rattle.sandbox_run.proofs.any_session.AnySession.run.Goals as goal

pub returns-in-V256-clause-ended : goal.returns-in-V256-clause-ended
returns-in-V256-clause-ended c = grind (arith, common_steps)
