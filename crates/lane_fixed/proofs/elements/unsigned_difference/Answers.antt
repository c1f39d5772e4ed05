use Rattle.std.proofs.Common.{arith}
use Rattle.lane_fixed.proofs.elements.unsigned_difference.Goals as goal

pub returns-clause-value : goal.returns-clause-value
returns-clause-value g c = grind arith
