use Rattle.std.proofs.Common.{arith}
use Rattle.rv_listing.proofs.fields.put_field.Goals as goal

pub returns-in-Vm-true : goal.returns-in-Vm-true
returns-in-Vm-true g c = grind arith
