use Rattle.region_mem.proofs.StartWhole.{starts_with_nothing_else}
use Rattle.region_mem.proofs.laws.starts_with_nothing_else.Goals as goal

pub returns : goal.returns
returns c = starts_with_nothing_else
