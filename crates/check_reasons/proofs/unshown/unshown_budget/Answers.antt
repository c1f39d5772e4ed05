use Rattle.check_reasons.proofs.unshown.unshown_budget.Goals as goal

pub returns-in-Some : goal.returns-in-Some
returns-in-Some g c = rw c.in-Some.is cc
