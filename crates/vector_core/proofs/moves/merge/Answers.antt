-- What `search` finds late, or not at all.
use Rattle.std.proofs.Common.{arith}
use Rattle.vector_core.proofs.Numbers.{choose_numbers}
use Rattle.rv_decode.specs.Needs.{needs_of_arith}
use Rattle.vector_core.specs.Moves.{merge_of}
use Rattle.vector_core.specs.Arithmetic.{arith_of}
use Rattle.vector_core.proofs.moves.merge.Goals as goal

pub returns : goal.returns
unfolding needs_of_arith merge_of arith_of
returns g c = grind (arith, choose_numbers)

pub write_results-requires : goal.write_results-requires
unfolding needs_of_arith merge_of arith_of
write_results-requires g c = grind arith
