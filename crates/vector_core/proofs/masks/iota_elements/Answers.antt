-- What `search` finds late, or not at all.
use Rattle.std.proofs.Common.{arith}
use Rattle.std.proofs.lemmas.Grind.{common_steps}
use Rattle.vector_core.specs.Masks.{iota_of}
use Rattle.vector_core.proofs.masks.iota_elements.Goals as goal

pub read_set_and_active-requires : goal.read_set_and_active-requires
unfolding iota_of
read_set_and_active-requires g c = grind (arith, common_steps)
