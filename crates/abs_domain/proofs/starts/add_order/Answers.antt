-- The greater atom is split at the ends that its order leaves.
use Rattle.std.proofs.Common.{arith}
use Rattle.std.proofs.lemmas.Grind.{common_steps}
use Rattle.abs_domain.specs.Orders.{with_order}
use Rattle.abs_domain.specs.Numbers.{with_split}
use Rattle.abs_domain.proofs.starts.add_order.Goals as goal

pub returns-then-lesser-greater-clause-atoms : goal.returns-then-lesser-greater-clause-atoms
unfolding with_order with_split
returns-then-lesser-greater-clause-atoms g c = grind (arith, common_steps)
