-- What `search` finds late, or not at all.
use Rattle.std.proofs.Common.{arith}
use Rattle.vector_core.proofs.Numbers.{map_two}
use Rattle.rv_decode.specs.Needs.{needs_of_arith}
use Rattle.vector_core.specs.Narrowing.{narrow_of}
use Rattle.vector_core.specs.Arithmetic.{arith_of}
use Rattle.vector_core.proofs.narrowing.narrow.Goals as goal

pub returns : goal.returns
unfolding needs_of_arith narrow_of arith_of
returns g c = grind (arith, map_two)

pub write_results-requires : goal.write_results-requires
unfolding needs_of_arith narrow_of arith_of
write_results-requires g c = grind arith
