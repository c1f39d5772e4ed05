use Rattle.region_mem.specs.ByteLemmas.{starts_with_bytes}
use Rattle.region_mem.proofs.laws.starts_with_bytes.Goals as goal

pub returns : goal.returns
returns c = starts_with_bytes
