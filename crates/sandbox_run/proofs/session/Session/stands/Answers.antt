use Rattle.std.proofs.Common.{subst, arith}
use Rattle.sandbox_run.specs.Session.{SessionView}
use Rattle.sandbox_run.specs.Stops.{IsStop}
use Rattle.std.proofs.lemmas.Grind.{common_steps}
use Rattle.sandbox_run.proofs.session.Session.stands.Goals as goal

pub returns-clause-stop : goal.returns-clause-stop
returns-clause-stop g c =
    subst (λ (s : SessionView). IsStop g.row.VLENB s.first s.steps s.machine) c.self.view_is c.self.invariant.2

pub returns-clause-within : goal.returns-clause-within
returns-clause-within g c = grind (arith, common_steps)
