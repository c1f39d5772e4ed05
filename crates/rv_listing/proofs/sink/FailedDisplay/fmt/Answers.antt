use Rattle.std.proofs.Common.{arith}
use Rattle.rv_listing.proofs.sink.FailedDisplay.fmt.Goals as goal

pub returns-clause-writes : goal.returns-clause-writes
returns-clause-writes g c = grind arith
