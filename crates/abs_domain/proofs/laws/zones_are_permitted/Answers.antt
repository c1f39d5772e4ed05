use Rattle.abs_domain.specs.MemoryLemmas.{inside_permitted}
use Rattle.abs_domain.proofs.laws.zones_are_permitted.Goals as goal

pub returns : goal.returns
returns c = inside_permitted
