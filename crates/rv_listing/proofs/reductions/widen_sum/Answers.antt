use Rattle.std.proofs.Common.{arith}
use Rattle.rv_listing.proofs.reductions.widen_sum.Goals as goal

pub returns-then-signed : goal.returns-then-signed
returns-then-signed c = grind arith

pub returns-else-signed : goal.returns-else-signed
returns-else-signed c = grind arith
