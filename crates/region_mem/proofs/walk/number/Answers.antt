-- What `search` finds late, or not at all.
use Rattle.std.proofs.Common.{arith}
use Rattle.std.proofs.lemmas.Grind.{common_steps}
use Rattle.region_mem.specs.Areas.{number_at, number_of}
use Rattle.region_mem.proofs.walk.number.Goals as goal

pub returns-in-1 : goal.returns-in-1
unfolding number_at number_of
returns-in-1 g c = grind (arith, common_steps)

pub returns-in-2 : goal.returns-in-2
unfolding number_at number_of
returns-in-2 g c = grind (arith, common_steps)

pub returns-in_default : goal.returns-in_default
unfolding number_at number_of
returns-in_default g c = grind (arith, common_steps)
