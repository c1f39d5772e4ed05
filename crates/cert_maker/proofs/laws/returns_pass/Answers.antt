use Rattle.cert_maker.proofs.Returns.{returns-pass}
use Rattle.cert_maker.proofs.laws.returns_pass.Goals as goal

pub returns : goal.returns
returns c = returns-pass
