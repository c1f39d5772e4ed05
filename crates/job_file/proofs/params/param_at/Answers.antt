use Rattle.std.proofs.Common.{arith}
use Rattle.std.proofs.lemmas.Grind.{common_steps}
use Rattle.job_file.specs.Job.{param_at}
use Rattle.job_file.proofs.params.param_at.Goals as goal

pub returns-in-Some : goal.returns-in-Some
unfolding param_at
returns-in-Some c = grind (arith, common_steps)
