use Rattle.abs_state.proofs.Ways.{straight-edges}
use Rattle.abs_state.proofs.laws.edges.straight_edges.Goals as goal

pub returns : goal.returns
returns c = straight-edges
