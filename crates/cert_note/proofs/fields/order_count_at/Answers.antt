use Rattle.std.proofs.Common.{arith}
use Rattle.std.proofs.lemmas.Grind.{common_steps}
use Rattle.cert_note.specs.Reading.{order_count_at}
use Rattle.cert_note.proofs.fields.order_count_at.Goals as goal

pub returns-in_ok-rest-in-V1-2-clause-count : goal.returns-in_ok-rest-in-V1-2-clause-count
unfolding order_count_at
returns-in_ok-rest-in-V1-2-clause-count c = grind (arith, common_steps)
