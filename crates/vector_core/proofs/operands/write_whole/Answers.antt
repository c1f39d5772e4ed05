-- With no mask each element of the body is active.
use Rattle.std.proofs.Common.{arith}
use Rattle.std.proofs.lemmas.Grind.{common_steps}
use Rattle.vreg_groups.specs.Elements.{active_of}
use Rattle.vector_core.proofs.operands.write_whole.Goals as goal

pub returns : goal.returns
unfolding active_of
returns g c = grind (arith, common_steps)
