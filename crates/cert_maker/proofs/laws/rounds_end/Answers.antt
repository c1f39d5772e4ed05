use Rattle.cert_maker.proofs.Closing.{rounds-end}
use Rattle.cert_maker.proofs.laws.rounds_end.Goals as goal

pub returns : goal.returns
returns c = rounds-end
