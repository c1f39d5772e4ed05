use Rattle.region_mem.specs.StartCodeLemmas.{starts_code_safe}
use Rattle.region_mem.proofs.laws.starts_code_safe.Goals as goal

pub returns : goal.returns
returns c = starts_code_safe
