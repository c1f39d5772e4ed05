-- What `search` finds late, or not at all.
use Rattle.std.proofs.Common.{arith}
use Rattle.std.proofs.lemmas.Grind.{common_steps}
use Rattle.region_mem.specs.Memory.{store_of, is_permitted}
use Rattle.region_mem.proofs.memory.Regions.store.Goals as goal

pub invariant_of-self : goal.invariant_of-self
unfolding store_of is_permitted
invariant_of-self g c = grind (arith, common_steps)

pub returns-clause-meaning : goal.returns-clause-meaning
unfolding store_of is_permitted
returns-clause-meaning g c = grind (arith, common_steps)

pub returns-clause-refused : goal.returns-clause-refused
unfolding store_of is_permitted
returns-clause-refused g c = grind (arith, common_steps)
