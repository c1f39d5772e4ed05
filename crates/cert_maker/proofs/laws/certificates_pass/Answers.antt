use Rattle.cert_maker.proofs.Checks.{certificates-pass}
use Rattle.cert_maker.proofs.laws.certificates_pass.Goals as goal

pub returns : goal.returns
returns c = certificates-pass c.meanings_fit.ensures
