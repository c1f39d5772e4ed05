-- What `search` finds late, or not at all.
use Rattle.std.proofs.Common.{arith}
use Rattle.std.proofs.lemmas.Grind.{common_steps}
use Rattle.vector_core.proofs.Moved.{kept_numbers}
use Rattle.rv_decode.specs.Needs.{needs_of_perm}
use Rattle.vector_core.specs.Permutations.{compress_of, perm_of}
use Rattle.vector_core.proofs.permutations.compress.Goals as goal

pub read_bits-requires : goal.read_bits-requires
unfolding needs_of_perm compress_of perm_of
read_bits-requires g c = grind (arith, common_steps)

pub returns : goal.returns
unfolding needs_of_perm compress_of perm_of
returns g c = grind (arith, kept_numbers)
