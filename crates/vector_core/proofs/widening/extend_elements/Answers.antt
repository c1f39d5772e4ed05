-- What `search` finds late, or not at all.
use Rattle.std.proofs.Common.{arith}
use Rattle.std.proofs.lemmas.Grind.{common_steps}
use Rattle.std.proofs.lemmas.Bool.Decides.{nat_tests}
use Rattle.rv_decode.specs.Needs.{needs_of_arith}
use Rattle.vector_core.specs.Widening.{extend_of}
use Rattle.vector_core.specs.Arithmetic.{arith_of}
use Rattle.vector_core.proofs.widening.extend_elements.Goals as goal

pub group-destination-requires : goal.group-destination-requires
unfolding needs_of_arith extend_of arith_of
group-destination-requires g c = grind (arith, common_steps)

pub whole_as_front-a : goal.whole_as_front-a
unfolding needs_of_arith extend_of arith_of
whole_as_front-a g c = grind (arith, nat_tests)

pub whole_as_front-x : goal.whole_as_front-x
unfolding needs_of_arith extend_of arith_of
whole_as_front-x g c = grind (arith, common_steps)

pub write_results-requires : goal.write_results-requires
unfolding needs_of_arith extend_of arith_of
write_results-requires g c = grind (arith, nat_tests)
