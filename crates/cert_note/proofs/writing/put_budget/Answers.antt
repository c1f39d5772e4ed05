use Rattle.std.proofs.Common.{arith}
use Rattle.std.proofs.lemmas.Grind.{common_steps}
use Rattle.cert_note.specs.Spelling.{spelled_budget}
use Rattle.cert_note.proofs.writing.put_budget.Goals as goal

pub returns-in_ok-push-in-V1 : goal.returns-in_ok-push-in-V1
unfolding spelled_budget
returns-in_ok-push-in-V1 g c = grind (arith, common_steps)
