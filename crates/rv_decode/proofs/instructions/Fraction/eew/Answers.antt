use Rattle.std.proofs.Common.{arith}
use Rattle.std.proofs.lemmas.Grind.{common_steps}
use Rattle.rv_decode.proofs.instructions.Fraction.eew.Goals as goal

pub returns-in-Quarter : goal.returns-in-Quarter
returns-in-Quarter c = grind (arith, common_steps)
