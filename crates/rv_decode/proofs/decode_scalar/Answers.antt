use Rattle.std.proofs.Common.{arith}
use Rattle.rv_decode.specs.Decode.{scalar_meanings, is_scalar_opcode}
use Rattle.rv_decode.proofs.decode_scalar.Goals as goal

pub returns-in_default-clause-unique : goal.returns-in_default-clause-unique
unfolding scalar_meanings is_scalar_opcode
returns-in_default-clause-unique c = grind arith
