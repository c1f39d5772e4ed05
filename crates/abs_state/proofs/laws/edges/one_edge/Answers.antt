use Rattle.abs_state.proofs.Ways.{one-edge}
use Rattle.abs_state.proofs.laws.edges.one_edge.Goals as goal

pub returns : goal.returns
returns c = one-edge
