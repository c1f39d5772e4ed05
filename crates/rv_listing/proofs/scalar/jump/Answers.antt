use Rattle.std.proofs.Common.{arith}
use Rattle.rv_listing.proofs.scalar.jump.Goals as goal

pub returns : goal.returns
returns c = grind arith
