use Rattle.region_mem.specs.KeptCodeLemmas.{stores_keep_unwritable}
use Rattle.region_mem.proofs.laws.stores_keep_unwritable.Goals as goal

pub returns : goal.returns
returns c = stores_keep_unwritable
