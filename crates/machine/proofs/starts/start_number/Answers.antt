-- What `search` finds late, or not at all.
use Rattle.std.proofs.Common.{arith}
use Rattle.std.proofs.lemmas.Grind.{common_steps}
use Rattle.machine.proofs.starts.start_number.Goals as goal

pub offset_bounds-places-place : goal.offset_bounds-places-place
offset_bounds-places-place g c = grind (arith, common_steps)

pub bounds-places-place : goal.bounds-places-place
bounds-places-place g c = grind (arith, common_steps)

pub returns-in-Passed : goal.returns-in-Passed
returns-in-Passed g c = grind (arith, common_steps)
