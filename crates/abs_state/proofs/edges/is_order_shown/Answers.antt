-- An order is shown by ranges, by forms, or by a branch.
use Rattle.std.proofs.Common.{arith}
use Rattle.std.proofs.lemmas.Grind.{common_steps}
use Rattle.abs_state.specs.Edges.{is_order_shown}
use Rattle.abs_state.proofs.edges.is_order_shown.Goals as goal

pub returns-else-is_order_by_forms : goal.returns-else-is_order_by_forms
unfolding is_order_shown
returns-else-is_order_by_forms g c = grind (arith, common_steps)
