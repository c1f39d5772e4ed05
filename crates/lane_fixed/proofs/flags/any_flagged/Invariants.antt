-- What is known is that of the first i flags.
use Rattle.std.proofs.Common.{◌≡◌, ◌==◌, not, map}
use Rattle.lane_fixed.proofs.KernelLemmas.{any_before}
use Rattle.lane_fixed.proofs.flags.any_flagged.Given as goal

abbrev pub invariant-loop-i : goal.invariant-loop-i
invariant-loop-i g l = let fs = map g.T.Flag.number l.flags in l.is_saturated ≡ any_before l.i (λ f h. not (f == 0)) fs fs l.active
