use Rattle.abs_domain.specs.OrderStartLemmas.{block_numbers_hold}
use Rattle.abs_domain.proofs.laws.block_numbers_hold.Goals as goal

pub returns : goal.returns
returns c = block_numbers_hold
