use Rattle.std.proofs.Common.{arith}
use Rattle.std.proofs.lemmas.Grind.{common_steps}
use Rattle.vector_mem.specs.Transfers.{loaded_to}
use Rattle.vector_mem.proofs.transfers.write_loaded.Goals as goal

pub returns-else-masked : goal.returns-else-masked
unfolding loaded_to
returns-else-masked g c = grind (arith, common_steps)
