use Rattle.std.proofs.Common.{◌≡◌, ℕ, ◌<◌, length, get_or, Some}
use Rattle.job_file.specs.declared.values.JobParam.TheVariants as param
use Rattle.job_file.proofs.needs.each_place.Given as goal

-- the places so far have what is taken of them
abbrev pub invariant-loop-place : goal.invariant-loop-place
invariant-loop-place g l = record {
  eight : length l.taken ≡ 8;
  filled : (k : ℕ) → k < l.place → goal.F-post g l.take (get_or l.params k param.None) (Some (get_or l.taken k l.fn.none));
}
