use Rattle.abs_transfer.specs.AddressLemmas.{address_lies}
use Rattle.abs_transfer.proofs.laws.addresses_lie.Goals as goal

pub returns : goal.returns
returns c = address_lies
