-- What `search` finds late, or not at all.
use Rattle.std.proofs.Common.{arith}
use Rattle.std.proofs.lemmas.Grind.{common_steps}
use Rattle.region_mem.specs.WriteLemmas.{with_byte_first, with_byte_none, holds_first}
use Rattle.region_mem.proofs.walk.set_byte.Goals as goal

pub offset_bounds-regions-place : goal.offset_bounds-regions-place
offset_bounds-regions-place g c = grind (arith, common_steps)

pub bounds-regions-place : goal.bounds-regions-place
bounds-regions-place g c = grind (arith, common_steps)

pub set_byte-requires : goal.set_byte-requires
set_byte-requires g c = grind (arith, with_byte_first, with_byte_none, holds_first)

pub returns-in-Some : goal.returns-in-Some
returns-in-Some g c = grind (arith, with_byte_first, with_byte_none, holds_first)

pub returns-in_default : goal.returns-in_default
returns-in_default g c = grind (arith, with_byte_first, with_byte_none, holds_first)
