-- What a fold makes of elements, as a number.
use Rattle.std.proofs.Common.{arith}
use Rattle.std.proofs.lemmas.Grind.{common_steps}
use Rattle.rv_decode.specs.Needs.{needs_of_reduce}
use Rattle.vector_core.specs.Reductions.{fold_of, reduce_of}
use Rattle.vector_core.proofs.reductions.fold_elements.Goals as goal

pub returns : goal.returns
unfolding needs_of_reduce fold_of reduce_of
returns g c = grind (arith, common_steps)
