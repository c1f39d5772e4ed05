use Rattle.std.proofs.Common.{rules, refl}
use Rattle.std.proofs.lemmas.Result.{err_from_is_err_and}
use Rattle.commands.proofs.MonLemmas.{broken-byte, broken-line}
use Rattle.commands.proofs.TalkLemmas.{goes-byte, goes-line}
use Rattle.commands.proofs.lines.answer_byte.Goals as goal

pub returns-in-Ok-clause-answered : goal.returns-in-Ok-clause-answered
returns-in-Ok-clause-answered g c is = goes-byte _ _ _ _ _ _ (search rules) (search rules) is

pub returns-clause-answered : goal.returns-clause-answered
returns-clause-answered g c = search (rules, goes-line)

pub returns-clause-passed : goal.returns-clause-passed
returns-clause-passed g c was = c.in_ok-flow.ensures.passed

pub returns-in-Err-clause-unanswered : goal.returns-in-Err-clause-unanswered
returns-in-Err-clause-unanswered g c is = broken-byte g.row.VLENB _ _ _ _ _ refl is

pub returns-in_err-flow-clause-unanswered : goal.returns-in_err-flow-clause-unanswered
returns-in_err-flow-clause-unanswered g c =
    let p = err_from_is_err_and c.from_residual.result c.from_residual.ensures.1 in
    rw (p.1, p.2) (λ is. broken-line g.row.VLENB _ _ _ _ _ _ _ (search rules) (search rules) is c.in_err-flow.ensures.unanswered)

pub returns-in-Ok-clause-same_reference : goal.returns-in-Ok-clause-same_reference
returns-in-Ok-clause-same_reference g c = refl

pub returns-in-Ok-clause-first : goal.returns-in-Ok-clause-first
returns-in-Ok-clause-first g c = refl

pub returns-in-Ok-clause-passed : goal.returns-in-Ok-clause-passed
returns-in-Ok-clause-passed g c = λ was. was

pub returns-in-Ok-clause-unanswered : goal.returns-in-Ok-clause-unanswered
returns-in-Ok-clause-unanswered g c = tt

pub returns-in-Err-clause-same_reference : goal.returns-in-Err-clause-same_reference
returns-in-Err-clause-same_reference g c = refl

pub returns-in-Err-clause-first : goal.returns-in-Err-clause-first
returns-in-Err-clause-first g c = refl

pub returns-in-Err-clause-answered : goal.returns-in-Err-clause-answered
returns-in-Err-clause-answered g c = tt

pub returns-in-Err-clause-passed : goal.returns-in-Err-clause-passed
returns-in-Err-clause-passed g c = tt

pub returns-in_err-flow-clause-same_reference : goal.returns-in_err-flow-clause-same_reference
returns-in_err-flow-clause-same_reference g c = c.answer.ensures.same_reference

pub returns-in_err-flow-clause-first : goal.returns-in_err-flow-clause-first
returns-in_err-flow-clause-first g c = c.answer.ensures.first

pub returns-clause-same_reference : goal.returns-clause-same_reference
returns-clause-same_reference g c = c.in_ok-flow.ensures.same_reference

pub returns-clause-first : goal.returns-clause-first
returns-clause-first g c = c.in_ok-flow.ensures.first

pub returns-clause-unanswered : goal.returns-clause-unanswered
returns-clause-unanswered g c = tt
