use Rattle.std.proofs.Common.{arith}
use Rattle.std.proofs.lemmas.Grind.{common_steps}
use Rattle.cert_note.specs.Reading.{version_of}
use Rattle.cert_note.proofs.fields.version_of.Goals as goal

pub returns-in-2 : goal.returns-in-2
unfolding version_of
returns-in-2 c = grind (arith, common_steps)
