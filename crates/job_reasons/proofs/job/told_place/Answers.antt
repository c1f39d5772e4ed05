use Rattle.job_reasons.proofs.job.told_place.Goals as goal

pub returns : goal.returns
returns c = cc
