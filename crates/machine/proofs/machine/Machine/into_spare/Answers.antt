use Rattle.std.proofs.Common.{rules}
use Rattle.machine.proofs.machine.Machine.into_spare.Goals as goal

pub returns : goal.returns
returns g c = search rules
