use Rattle.std.proofs.Common.{arith}
use Rattle.std.proofs.lemmas.Grind.{common_steps}
use Rattle.vreg_groups.proofs.vector_type.Vtype.eew_bits.Goals as goal

pub returns-in-Double-clause-meaning : goal.returns-in-Double-clause-meaning
returns-in-Double-clause-meaning c = grind (arith, common_steps)
