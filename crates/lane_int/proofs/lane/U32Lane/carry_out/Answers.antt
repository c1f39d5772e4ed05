use Rattle.std.proofs.Common.{arith}
use Rattle.lane_int.specs.Integer.{carries}
use Rattle.lane_int.proofs.lane.U32Lane.carry_out.Goals as goal

pub returns-in-Sbc : goal.returns-in-Sbc
unfolding carries
returns-in-Sbc c = grind arith
