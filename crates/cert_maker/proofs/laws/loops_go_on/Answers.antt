use Rattle.cert_maker.proofs.Working.{words-go_on}
use Rattle.cert_maker.proofs.laws.loops_go_on.Goals as goal

pub returns : goal.returns
returns c = words-go_on
