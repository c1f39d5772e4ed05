use Rattle.std.proofs.Common.{arith}
use Rattle.std.proofs.lemmas.Grind.{common_steps}
use Rattle.rv_decode.specs.Bits.{immediate_i}
use Rattle.rv_decode.proofs.word.immediate_i.Goals as goal

pub returns : goal.returns
unfolding immediate_i
returns c = grind (arith, common_steps)
