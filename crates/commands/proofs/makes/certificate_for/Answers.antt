use Rattle.std.proofs.Common.{rules}
use Rattle.commands.proofs.WhyLemmas.{loop_explained}
use Rattle.commands.proofs.makes.certificate_for.Goals as goal

pub returns-in-Ok-clause-answer : goal.returns-in-Ok-clause-answer
returns-in-Ok-clause-answer c = search rules

pub returns-in_default-clause-answer : goal.returns-in_default-clause-answer
returns-in_default-clause-answer c = search rules

pub returns-in-Err-clause-told : goal.returns-in-Err-clause-told
returns-in-Err-clause-told c = loop_explained _ _ _ _ _ _ c.in-Err.ensures c.not_made.ensures.told
