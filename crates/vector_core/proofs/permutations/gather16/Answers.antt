-- What `search` finds late, or not at all.
use Rattle.std.proofs.Common.{arith}
use Rattle.vector_core.proofs.Moved.{gathered_numbers}
use Rattle.rv_decode.specs.Needs.{needs_of_perm}
use Rattle.vector_core.specs.Permutations.{gather16_of, perm_of}
use Rattle.vector_core.proofs.permutations.gather16.Goals as goal

pub returns : goal.returns
unfolding needs_of_perm gather16_of perm_of
returns g c = grind (arith, gathered_numbers)
