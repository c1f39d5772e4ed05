-- The number of no setting is its fault.
use Rattle.std.proofs.Common.{arith}
use Rattle.std.proofs.lemmas.Grind.{common_steps}
use Rattle.rvvbox_c.proofs.calls.Setting.read.Goals as goal

pub returns-in_err-agnostic-clause-fault : goal.returns-in_err-agnostic-clause-fault
returns-in_err-agnostic-clause-fault c = grind (arith, common_steps)
