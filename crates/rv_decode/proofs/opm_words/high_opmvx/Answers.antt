use Rattle.std.proofs.Common.{arith}
use Rattle.std.proofs.lemmas.Grind.{common_steps}
use Rattle.rv_decode.specs.Vector.{high_opm}
use Rattle.rv_decode.proofs.opm_words.high_opmvx.Goals as goal

pub returns-in-62 : goal.returns-in-62
unfolding high_opm
returns-in-62 c = grind (arith, common_steps)
