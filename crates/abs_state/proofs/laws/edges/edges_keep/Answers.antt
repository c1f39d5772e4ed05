use Rattle.abs_state.proofs.Ways.{edges-keep}
use Rattle.abs_state.proofs.laws.edges.edges_keep.Goals as goal

pub returns : goal.returns
returns c = edges-keep
