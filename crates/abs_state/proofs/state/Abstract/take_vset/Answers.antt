use Rattle.std.proofs.Common.{arith}
use Rattle.abs_state.specs.After.{vset_after}
use Rattle.abs_state.proofs.state.Abstract.take_vset.Goals as goal

pub overflow_add-self : goal.overflow_add-self
unfolding vset_after
overflow_add-self c = grind arith
