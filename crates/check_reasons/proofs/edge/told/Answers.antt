use Rattle.check_reasons.specs.Edge.{edge_told}
use Rattle.check_reasons.proofs.edge.told.Goals as goal

pub returns : goal.returns
unfolding edge_told
returns g c = cc
