-- What `search` finds late, or not at all.
use Rattle.std.proofs.Common.{arith}
use Rattle.std.proofs.lemmas.Grind.{common_steps}
use Rattle.region_mem.specs.AccessLemmas.{find_place, find_none}
use Rattle.region_mem.proofs.areas.region_of.Goals as goal

pub offset_bounds-regions-place : goal.offset_bounds-regions-place
offset_bounds-regions-place g c = grind (arith, common_steps)

pub bounds-regions-place : goal.bounds-regions-place
bounds-regions-place g c = grind (arith, common_steps)

pub returns-in-Some : goal.returns-in-Some
returns-in-Some g c = grind (arith, find_place, find_none)

pub returns-in-None : goal.returns-in-None
returns-in-None g c = grind (arith, find_place, find_none)
