use Rattle.std.proofs.Common.{arith}
use Rattle.lane_masks.specs.Masks.{logic_of}
use Rattle.lane_masks.proofs.logic.bit_of.Goals as goal

pub returns-else-a-6 : goal.returns-else-a-6
unfolding logic_of
returns-else-a-6 c = grind arith
