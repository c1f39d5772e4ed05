use Rattle.std.proofs.Common.{◌≡◌, ℕ, ◌<◌, length, get_or}
use Rattle.job_file.specs.Needs.{run_param_lent, try_param_lent}
use Rattle.job_file.specs.declared.values.RunParam.TheVariants as given
use Rattle.job_file.specs.declared.values.TryParam.TheVariants as taken
use Rattle.commands.specs.Tries.{passed_by}
use Rattle.commands.proofs.tries.passed_params.Given as goal

-- the places so far have what is passed there
abbrev pub invariant-loop-place : goal.invariant-loop-place
invariant-loop-place l = record {
  eight : length l.made ≡ 8;
  filled : (k : ℕ) → k < l.place
      → run_param_lent (get_or l.made k given.None) ≡ passed_by (try_param_lent (get_or l.params k taken.None));
}
