use Rattle.region_mem.proofs.LendLemmas.{lent_windows_are_written}
use Rattle.region_mem.proofs.laws.lent_windows_are_written.Goals as goal

pub returns : goal.returns
returns g c = lent_windows_are_written c.args.memory.now c.is_placed.ensures
