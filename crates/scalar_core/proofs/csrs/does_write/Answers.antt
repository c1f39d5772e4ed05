use Rattle.std.proofs.Common.{arith}
use Rattle.std.proofs.lemmas.Grind.{common_steps}
use Rattle.scalar_core.specs.Csr.{does_write}
use Rattle.scalar_core.proofs.csrs.does_write.Goals as goal

pub returns-in-Write : goal.returns-in-Write
unfolding does_write
returns-in-Write c = grind (arith, common_steps)
