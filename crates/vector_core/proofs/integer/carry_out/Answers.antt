-- What elements carry or borrow, by their numbers.
use Rattle.std.proofs.Common.{arith}
use Rattle.rv_decode.specs.Needs.{needs_of_arith}
use Rattle.vector_core.specs.Arithmetic.{arith_of}
use Rattle.vector_core.specs.Integer.{carry_out_of}
use Rattle.vector_core.proofs.Numbers.{test_by_bits}
use Rattle.vector_core.proofs.integer.carry_out.Goals as goal

pub returns : goal.returns
unfolding needs_of_arith carry_out_of arith_of
returns g c = grind (arith, test_by_bits)
