use Rattle.abs_domain.specs.StartNumberLemmas.{entry_numbers_hold}
use Rattle.abs_domain.proofs.laws.entry_numbers_hold.Goals as goal

pub returns : goal.returns
returns c = entry_numbers_hold
