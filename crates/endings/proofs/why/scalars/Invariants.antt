use Rattle.std.proofs.Common.{◌≡◌, ℕ, ◌<◌, length, get_or}
use Rattle.block_checker.specs.Bound.{scalar_of}
use Rattle.region_mem.specs.declared.arguments.Arg.TheVariants as argument
use Rattle.endings.proofs.why.scalars.Given as goal

-- the places so far have their scalars
abbrev pub invariant-loop-place : goal.invariant-loop-place
invariant-loop-place l = record {
  eight : length l.made ≡ 8;
  filled : (k : ℕ) → k < l.place → get_or l.made k 0 ≡ scalar_of (get_or l.places k argument.None);
}
