use Rattle.std.proofs.Common.{arith}
use Rattle.std.proofs.lemmas.Grind.{common_steps}
use Rattle.lane_fixed.specs.Rounding.{rounds_up}
use Rattle.lane_fixed.proofs.rounding.rounds_up.Goals as goal

pub returns-then-one-rest-2 : goal.returns-then-one-rest-2
unfolding rounds_up
returns-then-one-rest-2 c = grind (arith, common_steps)
