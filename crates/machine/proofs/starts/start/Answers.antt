use Rattle.std.proofs.Common.{rules}
use Rattle.machine.proofs.starts.start.Goals as goal

pub returns-clause-start : goal.returns-clause-start
returns-clause-start g c = search rules
