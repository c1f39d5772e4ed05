use Rattle.std.proofs.Common.{arith}
use Rattle.std.proofs.lemmas.Grind.{common_steps}
use Rattle.job_file.specs.Job.{word_of}
use Rattle.job_file.proofs.fields.U32KeyValue.read.Goals as goal

pub returns : goal.returns
unfolding word_of
returns c = grind (arith, common_steps)
