use Rattle.region_mem.proofs.Order.{position_none}
use Rattle.std.proofs.Common.{sym}
use Rattle.region_mem.proofs.start.place_for.Goals as goal

pub returns-in-None-clause-value : goal.returns-in-None-clause-value
returns-in-None-clause-value g c = position_none _ _ (sym c.in-None.ensures)
