use Rattle.std.proofs.Common.{arith}
use Rattle.std.proofs.lemmas.Grind.{common_steps}
use Rattle.region_mem.proofs.layout.layout_in_numbers.Goals as goal

pub returns-clause-buffer_size : goal.returns-clause-buffer_size
returns-clause-buffer_size c = grind (arith, common_steps)
