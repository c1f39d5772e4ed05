use Rattle.abs_domain.specs.StartZoneLemmas.{zones_are_there}
use Rattle.abs_domain.proofs.laws.zones_are_there.Goals as goal

pub returns : goal.returns
returns c = zones_are_there
