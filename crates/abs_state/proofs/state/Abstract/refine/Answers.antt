use Rattle.std.proofs.Common.{arith}
use Rattle.abs_state.specs.Branches.{edge_by, refined}
use Rattle.abs_state.proofs.state.Abstract.refine.Goals as goal

pub returns-after-taken : goal.returns-after-taken
unfolding refined edge_by
returns-after-taken g c = grind arith
