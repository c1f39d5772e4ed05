use Rattle.std.proofs.Common.{arith}
use Rattle.std.proofs.lemmas.Grind.{common_steps}
use Rattle.cert_note.specs.Reading.{vlen_of}
use Rattle.cert_note.proofs.fields.vlen_of.Goals as goal

pub returns-in-3 : goal.returns-in-3
unfolding vlen_of
returns-in-3 c = grind (arith, common_steps)
