use Rattle.std.proofs.Common.{arith}
use Rattle.std.proofs.lemmas.Grind.{common_steps}
use Rattle.rv_decode.specs.Access.{mask_rows}
use Rattle.rv_decode.proofs.access_words.decode_mask.Goals as goal

pub returns-then-bits-eq0-2 : goal.returns-then-bits-eq0-2
unfolding mask_rows
returns-then-bits-eq0-2 c = grind (arith, common_steps)
