use Rattle.std.proofs.Common.{arith}
use Rattle.std.proofs.lemmas.Grind.{common_steps}
use Rattle.region_mem.specs.Parameter.{is_valid}
use Rattle.job_reasons.proofs.make.is_invalid.Goals as goal

pub returns-in-Scalar : goal.returns-in-Scalar
unfolding is_valid
returns-in-Scalar c = grind (arith, common_steps)
