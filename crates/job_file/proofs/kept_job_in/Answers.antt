use Rattle.std.proofs.Common.{arith}
use Rattle.std.proofs.lemmas.Grind.{common_steps}
use Rattle.job_file.specs.Job.{kept_job_of}
use Rattle.job_file.proofs.kept_job_in.Goals as goal

pub returns-in-Some : goal.returns-in-Some
unfolding kept_job_of
returns-in-Some c = grind (arith, common_steps)
