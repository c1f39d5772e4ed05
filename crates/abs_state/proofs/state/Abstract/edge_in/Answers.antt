use Rattle.std.proofs.Common.{arith}
use Rattle.std.proofs.lemmas.Grind.{common_steps}
use Rattle.abs_state.specs.Branches.{edge_in}
use Rattle.abs_state.proofs.state.Abstract.edge_in.Goals as goal

pub returns : goal.returns
unfolding edge_in
returns g c = grind (arith, common_steps)
