use Rattle.std.proofs.Common.{◌≡◌, ℕ, ◌<◌, length, get_or, Ok}
use Rattle.toml.specs.View.{array_view}
use Rattle.job_file.specs.Job.{param_at, param_lent}
use Rattle.job_file.specs.declared.values.JobParam.TheVariants as param
use Rattle.job_file.proofs.params.params_of.Given as goal

-- the places so far have their parameters
abbrev pub invariant-loop-place : goal.invariant-loop-place
invariant-loop-place l = record {
  eight : length l.params ≡ 8;
  filled : (k : ℕ) → k < l.place → param_at (array_view l.items) k ≡ Ok (param_lent (get_or l.params k param.None));
}
