use Rattle.std.proofs.Common.{rules}
use Rattle.commands.proofs.mons.mon_accepted.Goals as goal

pub returns-in-V512-clause-stopped : goal.returns-in-V512-clause-stopped
returns-in-V512-clause-stopped g c = search rules
