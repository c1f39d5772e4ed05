use Rattle.std.proofs.Common.{arith}
use Rattle.std.proofs.lemmas.Grind.{common_steps}
use Rattle.job_file.proofs.keys.JobKey.wanted.Goals as goal

pub returns-in-Mode : goal.returns-in-Mode
returns-in-Mode c = grind (arith, common_steps)
