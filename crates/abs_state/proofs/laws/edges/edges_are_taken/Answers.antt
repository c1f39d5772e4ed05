use Rattle.abs_state.proofs.EdgeLemmas.{edges-are_taken}
use Rattle.abs_state.proofs.laws.edges.edges_are_taken.Goals as goal

pub returns : goal.returns
returns c = edges-are_taken
