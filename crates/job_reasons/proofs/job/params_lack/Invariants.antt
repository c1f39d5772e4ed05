-- The places so far lack none.
use Rattle.std.proofs.Common.{map}
use Rattle.job_file.specs.Job.{param_lent}
use Rattle.job_reasons.specs.Job.{LackNone}
use Rattle.job_reasons.proofs.job.params_lack.Given as goal

abbrev pub invariant-loop-place : goal.invariant-loop-place
invariant-loop-place l = LackNone l.command (map param_lent l.params) l.place
