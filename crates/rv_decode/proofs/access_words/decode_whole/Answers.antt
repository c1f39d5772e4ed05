use Rattle.std.proofs.Common.{arith}
use Rattle.std.proofs.lemmas.Grind.{common_steps}
use Rattle.rv_decode.specs.Access.{whole_rows}
use Rattle.rv_decode.proofs.access_words.decode_whole.Goals as goal

pub returns-in-1 : goal.returns-in-1
unfolding whole_rows
returns-in-1 c = grind (arith, common_steps)
