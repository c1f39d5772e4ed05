use Rattle.abs_state.proofs.LegalLemmas.{check_legal}
use Rattle.abs_state.proofs.laws.vectors.checks_are_legal.Goals as goal

pub returns : goal.returns
returns c = check_legal
