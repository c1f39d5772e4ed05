use Rattle.std.proofs.Common.{arith}
use Rattle.std.proofs.lemmas.Grind.{common_steps}
use Rattle.cert_note.specs.Reading.{single_at}
use Rattle.cert_note.proofs.fields.single_at.Goals as goal

pub returns : goal.returns
unfolding single_at
returns c = grind (arith, common_steps)
