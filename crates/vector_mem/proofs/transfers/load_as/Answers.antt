-- What `search` finds late, or not at all.
use Rattle.std.proofs.Common.{arith}
use Rattle.std.proofs.lemmas.Grind.{common_steps}
use Rattle.vector_mem.specs.Transfers.{vector_load}
use Rattle.vector_mem.proofs.transfers.load_as.Goals as goal

pub slice_bounds-values-end-2 : goal.slice_bounds-values-end-2
unfolding vector_load
slice_bounds-values-end-2 g c = grind (arith, common_steps)

pub load_values-requires : goal.load_values-requires
unfolding vector_load
load_values-requires g c = grind (arith, common_steps)
