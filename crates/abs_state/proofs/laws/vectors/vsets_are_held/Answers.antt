use Rattle.abs_state.proofs.Vsets.{vset_held}
use Rattle.abs_state.proofs.laws.vectors.vsets_are_held.Goals as goal

pub returns : goal.returns
returns c = vset_held c.cut_are_true.ensures
