use Rattle.abs_state.proofs.GroupLemmas.{untouched_are_true}
use Rattle.abs_state.proofs.laws.vectors.untouched_are_true.Goals as goal

pub returns : goal.returns
returns c = untouched_are_true
