use Rattle.std.proofs.Common.{arith}
use Rattle.std.proofs.lemmas.Grind.{elements}
use Rattle.job_reasons.proofs.open.argument_at.Goals as goal

pub returns : goal.returns
returns g c = grind (arith, elements)
