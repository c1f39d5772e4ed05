use Rattle.std.proofs.Common.{arith}
use Rattle.std.proofs.lemmas.Grind.{common_steps}
use Rattle.lane_fixed.proofs.lane.U16FixedLane.clip_signed.Goals as goal

pub returns : goal.returns
returns c = grind (arith, common_steps)
