-- Both ends of the reach, from those of the base and of the indices.
use Rattle.std.proofs.Common.{arith}
use Rattle.std.proofs.lemmas.Grind.{common_steps}
use Rattle.abs_transfer.proofs.accesses.indexed_reach.Goals as goal

pub returns : goal.returns
returns c = grind (arith, common_steps)
