use Rattle.std.proofs.Common.{arith}
use Rattle.std.proofs.lemmas.Grind.{common_steps}
use Rattle.region_mem.specs.Parameter.{room_of}
use Rattle.region_mem.proofs.parameter.Param.room.Goals as goal

pub returns-in-Buffer : goal.returns-in-Buffer
unfolding room_of
returns-in-Buffer c = grind (arith, common_steps)
