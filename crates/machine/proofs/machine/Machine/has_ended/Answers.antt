use Rattle.std.proofs.Common.{rules}
use Rattle.machine.proofs.machine.Machine.has_ended.Goals as goal

pub returns : goal.returns
returns g c = search rules
