use Rattle.check_reasons.proofs.unshown.told_sum.Goals as goal

pub returns-in-Some : goal.returns-in-Some
returns-in-Some g c = cc
