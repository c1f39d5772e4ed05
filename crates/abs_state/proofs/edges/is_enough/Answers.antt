-- What is left is enough for the block that follows.
use Rattle.std.proofs.Common.{arith}
use Rattle.std.proofs.lemmas.Grind.{common_steps}
use Rattle.abs_state.specs.Edges.{pays}
use Rattle.abs_state.proofs.edges.is_enough.Goals as goal

pub returns : goal.returns
unfolding pays
returns g c = grind (arith, common_steps)
