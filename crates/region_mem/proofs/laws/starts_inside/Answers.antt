use Rattle.region_mem.specs.StartCodeLemmas.{starts_inside}
use Rattle.region_mem.proofs.laws.starts_inside.Goals as goal

pub returns : goal.returns
returns c = starts_inside
