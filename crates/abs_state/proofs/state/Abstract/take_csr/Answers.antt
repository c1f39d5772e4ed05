use Rattle.std.proofs.Common.{arith}
use Rattle.abs_state.proofs.Growth.{csr_grows}
use Rattle.abs_state.specs.After.{after_of, taken}
use Rattle.abs_state.proofs.state.Abstract.take_csr.Goals as goal

pub invariant_of-self : goal.invariant_of-self
unfolding after_of taken
invariant_of-self g c = grind (arith, csr_grows)
