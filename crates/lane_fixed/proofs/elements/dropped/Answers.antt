use Rattle.std.proofs.Common.{arith}
use Rattle.lane_fixed.specs.FixedPoint.{dropped}
use Rattle.lane_fixed.proofs.elements.dropped.Goals as goal

pub returns-in-Smul-clause-value : goal.returns-in-Smul-clause-value
unfolding dropped
returns-in-Smul-clause-value g c = grind arith
