use Rattle.abs_state.proofs.Transfers.{transfers_kept}
use Rattle.abs_state.proofs.laws.vectors.transfers_keep_memory.Goals as goal

pub returns : goal.returns
returns c = transfers_kept
