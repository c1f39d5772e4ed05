use Rattle.std.proofs.Common.{arith}
use Rattle.scalar_core.proofs.hart.Scalar.set_pc.Goals as goal

pub returns : goal.returns
returns c = grind arith
