use Rattle.abs_state.proofs.EdgeLemmas.{implied-ends}
use Rattle.abs_state.proofs.laws.edges.implied_ends.Goals as goal

pub returns : goal.returns
returns c = implied-ends
