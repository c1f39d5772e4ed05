-- Each part of what a block states is shown.
use Rattle.std.proofs.Common.{arith}
use Rattle.std.proofs.lemmas.Grind.{common_steps}
use Rattle.abs_state.specs.Edges.{implies_block}
use Rattle.abs_state.proofs.edges.implies_block.Goals as goal

pub returns : goal.returns
unfolding implies_block
returns g c = grind (arith, common_steps)
