use Rattle.std.proofs.Common.{arith}
use Rattle.std.proofs.lemmas.Grind.{common_steps}
use Rattle.rv_decode.specs.Vector.{vset_rows}
use Rattle.rv_decode.proofs.vector_words.decode_vset.Goals as goal

pub returns-in-1-bits : goal.returns-in-1-bits
unfolding vset_rows
returns-in-1-bits c = grind (arith, common_steps)
