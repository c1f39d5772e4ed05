use Rattle.std.proofs.Common.{rules}
use Rattle.job_file.specs.declared.values.TryParam.TheVariants as taken
use Rattle.job_file.specs.Needs.{try_param_lent, try_param_of}
use Rattle.job_file.proofs.JobLemmas.{runnable-each_place}
use Rattle.job_file.proofs.needs.try_job.Goals as goal

pub returns : goal.returns
returns c =
    rw c.runnable.ensures
    (runnable-each_place try_param_of try_param_lent taken.None c.args.job c.each_place-params.result (search rules)
    c.each_place-params.ensures.taken c.each_place-params.ensures.missing)
