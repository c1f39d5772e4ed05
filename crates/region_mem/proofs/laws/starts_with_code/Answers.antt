use Rattle.region_mem.specs.StartCodeLemmas.{starts_with_code}
use Rattle.region_mem.proofs.laws.starts_with_code.Goals as goal

pub returns : goal.returns
returns c = starts_with_code
