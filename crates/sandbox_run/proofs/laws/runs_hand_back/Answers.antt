use Rattle.sandbox_run.proofs.Back.{runs_hand_back}
use Rattle.sandbox_run.proofs.laws.runs_hand_back.Goals as goal

pub returns : goal.returns
returns c = runs_hand_back c.runs_keep_memory.ensures
