use Rattle.std.proofs.Common.{arith}
use Rattle.abs_state.proofs.Growth.{scalar_grows}
use Rattle.abs_state.specs.After.{after_of, taken}
use Rattle.abs_state.proofs.state.Abstract.take_scalar.Goals as goal

pub invariant_of-self : goal.invariant_of-self
unfolding after_of taken
invariant_of-self g c = grind arith

pub invariant_of-self-2 : goal.invariant_of-self-2
unfolding after_of taken
invariant_of-self-2 g c = grind (arith, scalar_grows)

pub returns : goal.returns
unfolding after_of taken
returns g c = grind arith
