use Rattle.std.proofs.Common.{arith}
use Rattle.std.proofs.lemmas.Grind.{common_steps}
use Rattle.cert_note.specs.Spelling.{header}
use Rattle.cert_note.proofs.writing.put_header.Goals as goal

pub returns-in_ok-extend_from_slice-in-V128 : goal.returns-in_ok-extend_from_slice-in-V128
unfolding header
returns-in_ok-extend_from_slice-in-V128 g c = grind (arith, common_steps)
