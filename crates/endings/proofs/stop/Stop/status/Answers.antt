-- Want of memory has a status of its own.
use Rattle.std.proofs.Common.{rules}
use Rattle.endings.proofs.stop.Stop.status.Goals as goal

pub returns-in-Memory : goal.returns-in-Memory
returns-in-Memory c = search rules
