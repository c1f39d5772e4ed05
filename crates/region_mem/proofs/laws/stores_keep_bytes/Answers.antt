use Rattle.region_mem.specs.ByteLemmas.{stores_keep_bytes}
use Rattle.region_mem.proofs.laws.stores_keep_bytes.Goals as goal

pub returns : goal.returns
returns c = stores_keep_bytes
