use Rattle.std.proofs.Common.{arith}
use Rattle.std.proofs.lemmas.Grind.{common_steps}
use Rattle.rv_decode.proofs.system_words.decode_change.Goals as goal

pub returns-in-3104 : goal.returns-in-3104
returns-in-3104 c = grind (arith, common_steps)
