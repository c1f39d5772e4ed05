use Rattle.std.proofs.Common.{arith}
use Rattle.std.proofs.lemmas.Grind.{common_steps}
use Rattle.cert_note.specs.Certificate.{is_second}
use Rattle.cert_note.proofs.fields.is_second.Goals as goal

pub returns-then-register-second_register : goal.returns-then-register-second_register
unfolding is_second
returns-then-register-second_register c = grind (arith, common_steps)
