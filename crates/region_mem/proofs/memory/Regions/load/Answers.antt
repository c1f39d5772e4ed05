use Rattle.std.proofs.Common.{arith}
use Rattle.std.proofs.lemmas.Grind.{common_steps}
use Rattle.region_mem.specs.Memory.{load_of, is_permitted}
use Rattle.region_mem.proofs.memory.Regions.load.Goals as goal

pub returns : goal.returns
unfolding load_of is_permitted
returns g c = grind (arith, common_steps)
