use Rattle.region_mem.proofs.WindowLaws.{windows_to_write, stores_in_windows}
use Rattle.region_mem.proofs.WindowFills.{stores_fill_windows}
use Rattle.region_mem.proofs.laws.stores_in_windows.Goals as goal

pub returns-clause-bounds : goal.returns-clause-bounds
returns-clause-bounds g c = windows_to_write c.args.memory.now c.is_placed.ensures

pub returns-clause-permitted : goal.returns-clause-permitted
returns-clause-permitted g c = stores_in_windows c.args.memory.now c.is_placed.ensures

pub returns-clause-filled : goal.returns-clause-filled
returns-clause-filled g c = stores_fill_windows c.args.memory.now c.is_placed.ensures
