-- The edge has the numbers where the branch goes this way.
use Rattle.std.proofs.Common.{arith}
use Rattle.std.proofs.lemmas.Grind.{common_steps}
use Rattle.abs_state.specs.Branches.{branch_edge}
use Rattle.abs_state.proofs.state.Abstract.branch_edge.Goals as goal

pub returns : goal.returns
unfolding branch_edge
returns g c = grind (arith, common_steps)
