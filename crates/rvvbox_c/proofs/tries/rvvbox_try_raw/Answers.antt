-- What refuses a try is its answer. A try that was done has the status of one; one that was not has left all as it was.
use Rattle.std.proofs.Common.{◌∙◌, ap, refl, sym}
use Rattle.std.proofs.lemmas.Bool.{false≢true}
use Rattle.rvvbox_c.specs.Tries.{is_tried}
use Rattle.rvvbox_c.proofs.TryLemmas.{is_answer}
use Rattle.rvvbox_c.proofs.tries.rvvbox_try_raw.Goals as goal

pub returns-in-Err-clause-answer : goal.returns-in-Err-clause-answer
returns-in-Err-clause-answer c = is_answer _ c.in-Err.told c.in-Err.ensures.refused

pub returns-in-Ok-clause-stopped : goal.returns-in-Ok-clause-stopped
returns-in-Ok-clause-stopped c = λ untried. absurd (false≢true (sym untried ∙ ap is_tried c.code.ensures.code ∙ c.in-Ok.ensures.done))

pub returns-in-Ok-clause-kept0 : goal.returns-in-Ok-clause-kept0
returns-in-Ok-clause-kept0 c = λ untried. absurd (false≢true (sym untried ∙ ap is_tried c.code.ensures.code ∙ c.in-Ok.ensures.done))

pub returns-in-Ok-clause-kept1 : goal.returns-in-Ok-clause-kept1
returns-in-Ok-clause-kept1 c = λ untried. absurd (false≢true (sym untried ∙ ap is_tried c.code.ensures.code ∙ c.in-Ok.ensures.done))

pub returns-in-Ok-clause-kept2 : goal.returns-in-Ok-clause-kept2
returns-in-Ok-clause-kept2 c = λ untried. absurd (false≢true (sym untried ∙ ap is_tried c.code.ensures.code ∙ c.in-Ok.ensures.done))

pub returns-in-Ok-clause-kept3 : goal.returns-in-Ok-clause-kept3
returns-in-Ok-clause-kept3 c = λ untried. absurd (false≢true (sym untried ∙ ap is_tried c.code.ensures.code ∙ c.in-Ok.ensures.done))

pub returns-in-Ok-clause-kept4 : goal.returns-in-Ok-clause-kept4
returns-in-Ok-clause-kept4 c = λ untried. absurd (false≢true (sym untried ∙ ap is_tried c.code.ensures.code ∙ c.in-Ok.ensures.done))

pub returns-in-Ok-clause-kept5 : goal.returns-in-Ok-clause-kept5
returns-in-Ok-clause-kept5 c = λ untried. absurd (false≢true (sym untried ∙ ap is_tried c.code.ensures.code ∙ c.in-Ok.ensures.done))

pub returns-in-Ok-clause-kept6 : goal.returns-in-Ok-clause-kept6
returns-in-Ok-clause-kept6 c = λ untried. absurd (false≢true (sym untried ∙ ap is_tried c.code.ensures.code ∙ c.in-Ok.ensures.done))

pub returns-in-Ok-clause-kept7 : goal.returns-in-Ok-clause-kept7
returns-in-Ok-clause-kept7 c = λ untried. absurd (false≢true (sym untried ∙ ap is_tried c.code.ensures.code ∙ c.in-Ok.ensures.done))

pub returns-in-Err-clause-stopped : goal.returns-in-Err-clause-stopped
returns-in-Err-clause-stopped c = λ untried. refl

pub returns-in-Err-clause-kept0 : goal.returns-in-Err-clause-kept0
returns-in-Err-clause-kept0 c = λ untried. refl

pub returns-in-Err-clause-kept1 : goal.returns-in-Err-clause-kept1
returns-in-Err-clause-kept1 c = λ untried. refl

pub returns-in-Err-clause-kept2 : goal.returns-in-Err-clause-kept2
returns-in-Err-clause-kept2 c = λ untried. refl

pub returns-in-Err-clause-kept3 : goal.returns-in-Err-clause-kept3
returns-in-Err-clause-kept3 c = λ untried. refl

pub returns-in-Err-clause-kept4 : goal.returns-in-Err-clause-kept4
returns-in-Err-clause-kept4 c = λ untried. refl

pub returns-in-Err-clause-kept5 : goal.returns-in-Err-clause-kept5
returns-in-Err-clause-kept5 c = λ untried. refl

pub returns-in-Err-clause-kept6 : goal.returns-in-Err-clause-kept6
returns-in-Err-clause-kept6 c = λ untried. refl

pub returns-in-Err-clause-kept7 : goal.returns-in-Err-clause-kept7
returns-in-Err-clause-kept7 c = λ untried. refl
