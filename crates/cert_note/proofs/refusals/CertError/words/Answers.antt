use Rattle.std.proofs.Common.{arith}
use Rattle.std.proofs.lemmas.Grind.{common_steps}
use Rattle.cert_note.proofs.refusals.CertError.words.Goals as goal

pub returns-in-Short : goal.returns-in-Short
returns-in-Short c = grind (arith, common_steps)
