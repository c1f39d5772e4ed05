use Rattle.std.proofs.Common.{arith}
use Rattle.std.proofs.lemmas.Grind.{common_steps}
use Rattle.region_mem.specs.Memory.{arg_with, left_after}
use Rattle.region_mem.proofs.start.arg_with.Goals as goal

pub returns-in-Some-clause-value : goal.returns-in-Some-clause-value
unfolding arg_with left_after
returns-in-Some-clause-value g c = grind (arith, common_steps)
