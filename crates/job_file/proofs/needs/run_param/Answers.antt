use Rattle.std.proofs.Common.{arith}
use Rattle.std.proofs.lemmas.Grind.{common_steps}
use Rattle.job_file.proofs.needs.run_param.Goals as goal

pub returns-in_err-file-in-Buffer : goal.returns-in_err-file-in-Buffer
returns-in_err-file-in-Buffer c = grind (arith, common_steps)

pub returns-in_ok-file-in-Buffer : goal.returns-in_ok-file-in-Buffer
returns-in_ok-file-in-Buffer c = grind (arith, common_steps)
