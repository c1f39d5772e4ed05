use Rattle.std.proofs.Common.{rules}
use Rattle.machine.specs.Start.{start}
use Rattle.machine.proofs.starts.start_with.Goals as goal

pub returns-in-Err-on-clause-back : goal.returns-in-Err-on-clause-back
unfolding start
returns-in-Err-on-clause-back g c = search rules
