use Rattle.std.proofs.Common.{arith}
use Rattle.std.proofs.lemmas.Grind.{common_steps}
use Rattle.cert_note.specs.Spelling.{counts}
use Rattle.cert_note.proofs.writing.put_counts.Goals as goal

pub returns-in_ok-extend_from_slice-in-V1 : goal.returns-in_ok-extend_from_slice-in-V1
unfolding counts
returns-in_ok-extend_from_slice-in-V1 g c = grind (arith, common_steps)
