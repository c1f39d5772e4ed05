use Rattle.std.proofs.Common.{arith}
use Rattle.std.proofs.lemmas.Grind.{common_steps}
use Rattle.cert_note.proofs.writing.version_code.Goals as goal

pub returns-in-V2 : goal.returns-in-V2
returns-in-V2 c = grind (arith, common_steps)
