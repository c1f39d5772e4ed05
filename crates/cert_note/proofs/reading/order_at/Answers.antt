use Rattle.std.proofs.Common.{arith}
use Rattle.std.proofs.lemmas.Grind.{common_steps}
use Rattle.cert_note.specs.Reading.{order_at}
use Rattle.cert_note.proofs.reading.order_at.Goals as goal

pub returns-in_err-expect-2 : goal.returns-in_err-expect-2
unfolding order_at
returns-in_err-expect-2 c = grind (arith, common_steps)
