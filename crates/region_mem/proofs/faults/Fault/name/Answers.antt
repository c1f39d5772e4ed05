use Rattle.std.proofs.Common.{arith}
use Rattle.std.proofs.lemmas.Grind.{common_steps}
use Rattle.region_mem.proofs.faults.Fault.name.Goals as goal

pub returns-in-LoadFault : goal.returns-in-LoadFault
returns-in-LoadFault c = grind (arith, common_steps)
