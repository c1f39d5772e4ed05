use Rattle.std.proofs.Common.{subst}
use Rattle.block_checker.specs.Accepted.{AcceptedView}
use Rattle.block_checker.specs.BoundLaws.{BoundIsBudget}
use Rattle.block_checker.proofs.Passing.{bound-is-budget}
use Rattle.block_checker.proofs.accepted.Accepted.bound_is_budget.Goals as goal

pub returns : goal.returns
returns g c =
    let own = c.self.inside in
    let passed : AcceptedView = record { image = own.image; certificate = own.certificate; vlen = own.vlen } in
    subst (λ (a : AcceptedView). BoundIsBudget a) c.self.view_is
    (bound-is-budget passed c.contents-contents.ensures.certificate c.self.invariant)
