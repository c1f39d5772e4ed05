use Rattle.std.proofs.Common.{arith}
use Rattle.std.proofs.lemmas.Grind.{common_steps}
use Rattle.rv_decode.proofs.instructions.LoadKind.width.Goals as goal

pub returns-in-Half : goal.returns-in-Half
returns-in-Half c = grind (arith, common_steps)
