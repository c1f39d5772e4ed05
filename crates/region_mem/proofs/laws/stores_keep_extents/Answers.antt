use Rattle.region_mem.specs.ExtentLemmas.{stores_keep_extents}
use Rattle.region_mem.proofs.laws.stores_keep_extents.Goals as goal

pub returns : goal.returns
returns c = stores_keep_extents
