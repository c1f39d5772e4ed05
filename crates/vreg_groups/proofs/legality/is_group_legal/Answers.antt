use Rattle.std.proofs.Common.{arith}
use Rattle.std.proofs.lemmas.Grind.{common_steps}
use Rattle.vreg_groups.proofs.legality.is_group_legal.Goals as goal

pub returns-then-emul_eighths-le64-clause-meaning : goal.returns-then-emul_eighths-le64-clause-meaning
returns-then-emul_eighths-le64-clause-meaning c = grind (arith, common_steps)
