use Rattle.region_mem.specs.ExtentLemmas.{fetches_nothing_above}
use Rattle.region_mem.proofs.laws.fetches_nothing_above.Goals as goal

pub returns : goal.returns
returns c = fetches_nothing_above
