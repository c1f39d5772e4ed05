-- What a product and a sum make of elements, as numbers.
use Rattle.std.proofs.Common.{arith}
use Rattle.rv_decode.specs.Needs.{needs_of_arith}
use Rattle.vector_core.specs.Arithmetic.{arith_of}
use Rattle.vector_core.specs.Integer.{multiply_add_of}
use Rattle.vector_core.proofs.Numbers.{map_three}
use Rattle.vector_core.proofs.integer.multiply_add.Goals as goal

pub returns : goal.returns
unfolding needs_of_arith multiply_add_of arith_of
returns g c = grind (arith, map_three)
