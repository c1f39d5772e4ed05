use Rattle.job_reasons.proofs.JobLemmas.{one_more}
use Rattle.job_reasons.proofs.job.params_lack.Goals as goal

pub loop-place-preserved : goal.loop-place-preserved
loop-place-preserved c = one_more c.args.command c.args.params c.loop-place.place c.param_lacks.result c.loop-place.invariant c.param_lacks.ensures c.in_default.is
