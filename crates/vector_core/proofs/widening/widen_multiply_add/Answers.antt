-- What `search` finds late, or not at all.
use Rattle.std.proofs.Common.{arith}
use Rattle.vector_core.proofs.Numbers.{map_three}
use Rattle.rv_decode.specs.Needs.{needs_of_arith}
use Rattle.vector_core.specs.Widening.{widen_multiply_add_of}
use Rattle.vector_core.specs.Operands.{second_of}
use Rattle.vector_core.specs.Arithmetic.{arith_of}
use Rattle.vector_core.proofs.widening.widen_multiply_add.Goals as goal

pub returns : goal.returns
unfolding needs_of_arith widen_multiply_add_of second_of arith_of
returns g c = grind (arith, map_three)

pub write_results-requires : goal.write_results-requires
unfolding needs_of_arith widen_multiply_add_of second_of arith_of
write_results-requires g c = grind arith
