-- How elements compare, by their numbers.
use Rattle.std.proofs.Common.{arith}
use Rattle.rv_decode.specs.Needs.{needs_of_arith}
use Rattle.vector_core.specs.Arithmetic.{arith_of}
use Rattle.vector_core.specs.Integer.{compare_of}
use Rattle.vector_core.proofs.Numbers.{test_two}
use Rattle.vector_core.proofs.integer.compare.Goals as goal

pub returns : goal.returns
unfolding needs_of_arith compare_of arith_of
returns g c = grind (arith, test_two)
