use Rattle.std.proofs.Common.{arith}
use Rattle.abs_state.specs.Branches.{related_edge}
use Rattle.abs_state.proofs.state.Abstract.related_edge.Goals as goal

pub returns-in_err-p-in-Some : goal.returns-in_err-p-in-Some
unfolding related_edge
returns-in_err-p-in-Some g c = grind arith

pub returns-in_ok-p-in-Some : goal.returns-in_ok-p-in-Some
unfolding related_edge
returns-in_ok-p-in-Some g c = grind arith
