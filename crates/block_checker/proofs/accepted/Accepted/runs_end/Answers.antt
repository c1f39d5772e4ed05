use Rattle.std.proofs.Common.{subst}
use Rattle.block_checker.specs.Accepted.{AcceptedView}
use Rattle.block_checker.specs.Sound.{RunsEnd}
use Rattle.block_checker.proofs.Passing.{runs-end}
use Rattle.block_checker.proofs.accepted.Accepted.runs_end.Goals as goal

-- the image and the certificate are what they are by their definitions, and that they pass the check is the type's invariant
pub returns : goal.returns
returns g c =
    let own = c.self.inside in
    let passed : AcceptedView = record { image = own.image; certificate = own.certificate; vlen = own.vlen } in
    subst (λ (a : AcceptedView). RunsEnd a) c.self.view_is
    (runs-end c.passing_runs_end.ensures passed c.segments-segments.ensures.image c.contents-contents.ensures.certificate c.self.invariant)
