-- What `search` finds late, or not at all.
use Rattle.std.proofs.Common.{arith}
use Rattle.std.proofs.lemmas.Grind.{common_steps}
use Rattle.job_reasons.proofs.job.table_reason.Goals as goal

pub returns-in-Some-params_lack : goal.returns-in-Some-params_lack
returns-in-Some-params_lack c = grind (arith, common_steps)
