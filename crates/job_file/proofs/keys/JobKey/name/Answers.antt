use Rattle.std.proofs.Common.{arith}
use Rattle.std.proofs.lemmas.Grind.{common_steps}
use Rattle.job_file.proofs.keys.JobKey.name.Goals as goal

pub returns-in-Vlen : goal.returns-in-Vlen
returns-in-Vlen c = grind (arith, common_steps)
