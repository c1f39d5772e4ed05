use Rattle.abs_domain.specs.MemoryLemmas.{stores_kept}
use Rattle.abs_domain.proofs.laws.stores_keep_zones.Goals as goal

pub returns : goal.returns
returns c = stores_kept
