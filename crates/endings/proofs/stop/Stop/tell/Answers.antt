use Rattle.endings.proofs.EndingLemmas.{told_on}
use Rattle.endings.proofs.stop.Stop.tell.Goals as goal

pub returns-clause-told : goal.returns-clause-told
returns-clause-told g c = told_on _ _ _ _ _ _ c.put_stop-told.ensures
