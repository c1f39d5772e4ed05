-- Each status has its number.
use Rattle.std.proofs.Common.{arith}
use Rattle.std.proofs.lemmas.Grind.{common_steps}
use Rattle.rvvbox_c.proofs.status.Status.code.Goals as goal

pub returns-in-Trapped-clause-code : goal.returns-in-Trapped-clause-code
returns-in-Trapped-clause-code c = grind (arith, common_steps)
