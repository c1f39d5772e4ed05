use Rattle.region_mem.proofs.WindowLaws.{windows_to_read, loads_in_windows}
use Rattle.region_mem.proofs.laws.loads_in_windows.Goals as goal

pub returns-clause-bounds : goal.returns-clause-bounds
returns-clause-bounds g c = windows_to_read c.args.memory.now c.is_placed.ensures

pub returns-clause-loads : goal.returns-clause-loads
returns-clause-loads g c = loads_in_windows c.args.memory.now c.is_placed.ensures
