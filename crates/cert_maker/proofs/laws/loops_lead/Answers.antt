use Rattle.cert_maker.proofs.Leading.{loops-lead}
use Rattle.cert_maker.proofs.laws.loops_lead.Goals as goal

pub returns : goal.returns
returns c = loops-lead
