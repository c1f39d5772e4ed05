use Rattle.std.proofs.Common.{arith}
use Rattle.std.proofs.lemmas.Grind.{common_steps}
use Rattle.scalar_core.specs.Hart.{with_reg}
use Rattle.scalar_core.proofs.hart.Scalar.set_reg.Goals as goal

pub invariant_of-self : goal.invariant_of-self
unfolding with_reg
invariant_of-self c = grind (arith, common_steps)
