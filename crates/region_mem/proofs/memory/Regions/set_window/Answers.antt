use Rattle.std.proofs.Common.{arith}
use Rattle.std.proofs.lemmas.Grind.{common_steps}
use Rattle.region_mem.proofs.memory.Regions.set_window.Goals as goal

pub returns : goal.returns
returns g c = grind (arith, common_steps)
