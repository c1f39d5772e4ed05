use Rattle.std.proofs.Common.{arith}
use Rattle.std.proofs.lemmas.Grind.{common_steps}
use Rattle.vreg_groups.proofs.vector_length.Vlen.bytes.Goals as goal

pub returns-in-V512-clause-meaning : goal.returns-in-V512-clause-meaning
returns-in-V512-clause-meaning c = grind (arith, common_steps)
