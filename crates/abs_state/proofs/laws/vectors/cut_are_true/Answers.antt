use Rattle.abs_state.proofs.GroupLemmas.{cut_are_true}
use Rattle.abs_state.proofs.laws.vectors.cut_are_true.Goals as goal

pub returns : goal.returns
returns c = cut_are_true
