-- The own budget pays for the next one.
use Rattle.std.proofs.Common.{arith}
use Rattle.std.proofs.lemmas.Grind.{common_steps}
use Rattle.abs_state.specs.Edges.{is_paid}
use Rattle.abs_state.proofs.edges.is_paid.Goals as goal

pub returns : goal.returns
unfolding is_paid
returns c = grind (arith, common_steps)
