use Rattle.std.proofs.Common.{arith}
use Rattle.std.proofs.lemmas.Grind.{common_steps}
use Rattle.rv_decode.specs.Scalar.{register_groups}
use Rattle.rv_decode.proofs.scalar_words.decode_register.Goals as goal

pub returns-in-0-bits : goal.returns-in-0-bits
unfolding register_groups
returns-in-0-bits c = grind (arith, common_steps)
