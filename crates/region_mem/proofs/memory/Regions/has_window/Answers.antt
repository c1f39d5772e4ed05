use Rattle.std.proofs.Common.{arith}
use Rattle.std.proofs.lemmas.Grind.{common_steps}
use Rattle.region_mem.specs.Memory.{has_window}
use Rattle.region_mem.proofs.memory.Regions.has_window.Goals as goal

pub returns : goal.returns
unfolding has_window
returns g c = grind (arith, common_steps)
