use Rattle.std.proofs.Common.{arith}
use Rattle.std.proofs.lemmas.Grind.{common_steps}
use Rattle.region_mem.specs.Memory.{fetch_of, is_permitted}
use Rattle.region_mem.proofs.memory.Regions.fetch_next.Goals as goal

pub returns-in-Some-clause-word : goal.returns-in-Some-clause-word
unfolding fetch_of is_permitted
returns-in-Some-clause-word g c = grind (arith, common_steps)
