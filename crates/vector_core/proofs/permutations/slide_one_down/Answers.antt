-- What `search` finds late, or not at all.
use Rattle.std.proofs.Common.{arith}
use Rattle.vector_core.proofs.Moved.{slid_one_down_numbers}
use Rattle.rv_decode.specs.Needs.{needs_of_perm}
use Rattle.vector_core.specs.Permutations.{slide_one_down_of, perm_of}
use Rattle.vector_core.proofs.permutations.slide_one_down.Goals as goal

pub returns : goal.returns
unfolding needs_of_perm slide_one_down_of perm_of
returns g c = grind (arith, slid_one_down_numbers)
