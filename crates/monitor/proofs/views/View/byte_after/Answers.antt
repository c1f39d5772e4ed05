use Rattle.std.proofs.Common.{arith}
use Rattle.std.proofs.lemmas.Grind.{common_steps}
use Rattle.monitor.specs.Views.{byte_at}
use Rattle.monitor.proofs.views.View.byte_after.Goals as goal

pub returns-in-Some : goal.returns-in-Some
unfolding byte_at
returns-in-Some g c = grind (arith, common_steps)
