-- The number is what the register gets.
use Rattle.abs_transfer.proofs.scalar.constant.Goals as goal

pub returns : goal.returns
returns g c = cc
