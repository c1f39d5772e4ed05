use Rattle.std.proofs.Common.{arith}
use Rattle.lane_fixed.proofs.flags.or_active.Goals as goal

pub returns-else-is_active : goal.returns-else-is_active
returns-else-is_active c = grind arith
