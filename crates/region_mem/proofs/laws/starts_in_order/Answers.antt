use Rattle.region_mem.specs.ApartLemmas.{starts_in_order}
use Rattle.region_mem.proofs.laws.starts_in_order.Goals as goal

pub returns : goal.returns
returns c = starts_in_order
