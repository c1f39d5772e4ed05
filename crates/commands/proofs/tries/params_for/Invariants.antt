use Rattle.std.proofs.Common.{◌≡◌, ℕ, ◌<◌, length, get_or}
use Rattle.job_file.specs.Needs.{try_param_lent}
use Rattle.job_file.specs.declared.values.TryParam.TheVariants as taken
use Rattle.region_mem.specs.declared.arguments.Arg.TheVariants as argument
use Rattle.region_mem.specs.declared.parameter.Param.TheVariants as parameter
use Rattle.commands.specs.Tries.{param_for}
use Rattle.commands.proofs.tries.params_for.Given as goal

-- the places so far have their parameters
abbrev pub invariant-loop-place : goal.invariant-loop-place
invariant-loop-place l = record {
  eight : length l.made ≡ 8;
  filled : (k : ℕ) → k < l.place
      → get_or l.made k parameter.None ≡ param_for (try_param_lent (get_or l.params k taken.None), get_or l.args k argument.None);
}
