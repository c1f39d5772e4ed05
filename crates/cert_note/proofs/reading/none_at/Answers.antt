use Rattle.std.proofs.Common.{arith}
use Rattle.std.proofs.lemmas.Grind.{common_steps}
use Rattle.cert_note.specs.Reading.{none_at}
use Rattle.cert_note.proofs.reading.none_at.Goals as goal

pub returns-in_err-expect : goal.returns-in_err-expect
unfolding none_at
returns-in_err-expect c = grind (arith, common_steps)
