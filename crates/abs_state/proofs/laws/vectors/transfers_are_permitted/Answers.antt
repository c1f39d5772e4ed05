use Rattle.abs_state.proofs.Transfers.{transfers_pass}
use Rattle.abs_state.proofs.laws.vectors.transfers_are_permitted.Goals as goal

pub returns : goal.returns
returns c = transfers_pass
