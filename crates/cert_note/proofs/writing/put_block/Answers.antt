-- What `search` finds late, or not at all.
use Rattle.std.proofs.Common.{arith}
use Rattle.std.proofs.lemmas.Grind.{common_steps}
use Rattle.cert_note.specs.Spelling.{spelled_block}
use Rattle.cert_note.proofs.writing.put_block.Goals as goal

pub returns : goal.returns
unfolding spelled_block
returns g c = grind (arith, common_steps)
