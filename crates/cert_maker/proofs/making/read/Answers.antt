use Rattle.cert_maker.proofs.IsForLemmas.{class_is, some_read}
use Rattle.cert_maker.proofs.making.read.Goals as goal

pub returns-clause-class : goal.returns-clause-class
returns-clause-class g c = class_is _ _ _ c.loop_of.ensures.value

pub returns-clause-some : goal.returns-clause-some
returns-clause-some g c = some_read _ _ _ c.loop_of.ensures.value
