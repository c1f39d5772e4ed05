-- Each fault has its number.
use Rattle.std.proofs.Common.{arith}
use Rattle.std.proofs.lemmas.Grind.{common_steps}
use Rattle.rvvbox_c.proofs.tries.fault_number.Goals as goal

pub returns-in-FetchFault : goal.returns-in-FetchFault
returns-in-FetchFault c = grind (arith, common_steps)
