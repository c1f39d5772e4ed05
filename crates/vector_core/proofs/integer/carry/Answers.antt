-- What a sum or difference with the bits of v0 makes of elements, as numbers.
use Rattle.std.proofs.Common.{arith}
use Rattle.rv_decode.specs.Needs.{needs_of_arith}
use Rattle.vector_core.specs.Arithmetic.{arith_of}
use Rattle.vector_core.specs.Integer.{carry_of}
use Rattle.vector_core.proofs.Numbers.{map_by_bits}
use Rattle.vector_core.proofs.integer.carry.Goals as goal

pub returns : goal.returns
unfolding needs_of_arith carry_of arith_of
returns g c = grind (arith, map_by_bits)
