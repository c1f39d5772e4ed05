use Rattle.abs_state.proofs.EdgeLemmas.{implied-fits}
use Rattle.abs_state.proofs.laws.edges.implied_fits.Goals as goal

pub returns : goal.returns
returns c = implied-fits
