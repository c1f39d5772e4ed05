use Rattle.std.proofs.Common.{arith}
use Rattle.std.proofs.lemmas.Grind.{common_steps}
use Rattle.job_reasons.proofs.open.OpenReasonDisplay.fmt.Goals as goal

pub returns-in-Bound-clause-writes : goal.returns-in-Bound-clause-writes
returns-in-Bound-clause-writes g c = grind (arith, common_steps)
