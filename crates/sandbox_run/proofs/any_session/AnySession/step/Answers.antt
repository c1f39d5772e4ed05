use Rattle.std.proofs.Common.{arith}
use Rattle.std.proofs.lemmas.Grind.{common_steps}
use Rattle.sandbox_run.proofs.any_session.AnySession.step.Goals as goal

pub returns-in-V512-clause-end : goal.returns-in-V512-clause-end
returns-in-V512-clause-end c = grind (arith, common_steps)
