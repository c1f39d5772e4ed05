use Rattle.check_reasons.proofs.access.reach_from.Goals as goal

pub returns : goal.returns
returns c = cc
