use Rattle.std.proofs.Common.{arith}
use Rattle.std.proofs.lemmas.Grind.{common_steps}
use Rattle.job_reasons.proofs.make.attach_reason.Goals as goal

pub returns-in-CertificateThere : goal.returns-in-CertificateThere
returns-in-CertificateThere c = grind (arith, common_steps)

pub returns-else-is_too_short : goal.returns-else-is_too_short
returns-else-is_too_short c = grind (arith, common_steps)
