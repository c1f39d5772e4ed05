use Rattle.std.proofs.Common.{arith}
use Rattle.std.proofs.lemmas.Grind.{common_steps}
use Rattle.abs_state.proofs.edges.are_vectors_shown.Goals as goal

pub loop-fact-preserved : goal.loop-fact-preserved
loop-fact-preserved g c = grind (arith, common_steps)

pub returns : goal.returns
returns g c = grind (arith, common_steps)

pub returns-then-not-is_vector_shown : goal.returns-then-not-is_vector_shown
returns-then-not-is_vector_shown g c = grind (arith, common_steps)
