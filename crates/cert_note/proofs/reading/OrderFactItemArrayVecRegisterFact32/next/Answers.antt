use Rattle.std.proofs.Common.{arith}
use Rattle.std.proofs.lemmas.Grind.{common_steps}
use Rattle.cert_note.proofs.reading.OrderFactItemArrayVecRegisterFact32.next.Goals as goal

pub returns : goal.returns
returns c = grind (arith, common_steps)
