-- Want of memory is no misfit.
use Rattle.std.proofs.Common.{rules}
use Rattle.endings.proofs.why.not_made.Goals as goal

pub returns-in-NoMemory : goal.returns-in-NoMemory
returns-in-NoMemory c = search rules
