-- A branch says an order by its condition and by whether it is taken.
use Rattle.std.proofs.Common.{arith}
use Rattle.std.proofs.lemmas.Grind.{common_steps}
use Rattle.abs_state.specs.Edges.{says_order}
use Rattle.abs_state.proofs.edges.tells_order.Goals as goal

pub returns-in-Ltu-true-2 : goal.returns-in-Ltu-true-2
unfolding says_order
returns-in-Ltu-true-2 c = grind (arith, common_steps)
