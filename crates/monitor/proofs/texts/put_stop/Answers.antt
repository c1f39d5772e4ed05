use Rattle.monitor.specs.Texts.{stop_text}
use Rattle.monitor.proofs.texts.put_stop.Goals as goal

pub returns-then-ended : goal.returns-then-ended
unfolding stop_text
returns-then-ended g c = rw c.if-ended.true c.put_all.ensures
