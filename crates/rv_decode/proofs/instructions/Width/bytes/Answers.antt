use Rattle.std.proofs.Common.{arith}
use Rattle.std.proofs.lemmas.Grind.{common_steps}
use Rattle.rv_decode.proofs.instructions.Width.bytes.Goals as goal

pub returns-in-W16-clause-value : goal.returns-in-W16-clause-value
returns-in-W16-clause-value c = grind (arith, common_steps)
