use Rattle.std.proofs.Common.{rules}
use Rattle.job_file.specs.declared.values.RunParam.TheVariants as given
use Rattle.job_file.specs.Needs.{run_param_lent, run_param_of}
use Rattle.job_file.proofs.JobLemmas.{runnable-each_place}
use Rattle.job_file.proofs.needs.run_job.Goals as goal

pub returns : goal.returns
returns c =
    rw c.runnable.ensures
    (runnable-each_place run_param_of run_param_lent given.None c.args.job c.each_place-params.result (search rules)
    c.each_place-params.ensures.taken c.each_place-params.ensures.missing)
