use Rattle.std.proofs.Common.{arith}
use Rattle.std.proofs.lemmas.Grind.{common_steps}
use Rattle.cert_note.specs.Reading.{double_at}
use Rattle.cert_note.proofs.fields.double_at.Goals as goal

pub returns-in_err-register : goal.returns-in_err-register
unfolding double_at
returns-in_err-register c = grind (arith, common_steps)
