-- What `search` finds late, or not at all.
use Rattle.std.proofs.Common.{arith}
use Rattle.std.proofs.lemmas.Grind.{common_steps}
use Rattle.vector_mem.specs.Transfers.{vector_store}
use Rattle.vector_mem.proofs.transfers.store_as.Goals as goal

pub slice_bounds-values-end-2 : goal.slice_bounds-values-end-2
unfolding vector_store
slice_bounds-values-end-2 g c = grind (arith, common_steps)

pub store_values-requires : goal.store_values-requires
unfolding vector_store
store_values-requires g c = grind (arith, common_steps)
