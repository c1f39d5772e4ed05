-- What `search` finds late, or not at all.
use Rattle.std.proofs.Common.{arith}
use Rattle.std.proofs.lemmas.Bool.Decides.{nat_tests}
use Rattle.rv_decode.specs.Needs.{needs_of_arith}
use Rattle.vector_core.specs.FixedPoint.{fixed_of}
use Rattle.vector_core.specs.Arithmetic.{arith_of}
use Rattle.vector_core.proofs.fixed_point.fixed.Goals as goal

pub write_results-requires : goal.write_results-requires
unfolding needs_of_arith fixed_of arith_of
write_results-requires g c = grind (arith, nat_tests)
