-- A run that was closed has the status 0; one that was not has left the bytes as they were.
use Rattle.std.proofs.Common.{refl}
use Rattle.rvvbox_c.proofs.sessions.rvvbox_close_raw.Goals as goal

pub returns-in-Ok-clause-kept0 : goal.returns-in-Ok-clause-kept0
returns-in-Ok-clause-kept0 c = λ fails. absurd (fails (c.code.ensures.done refl))

pub returns-in-Ok-clause-kept1 : goal.returns-in-Ok-clause-kept1
returns-in-Ok-clause-kept1 c = λ fails. absurd (fails (c.code.ensures.done refl))

pub returns-in-Ok-clause-kept2 : goal.returns-in-Ok-clause-kept2
returns-in-Ok-clause-kept2 c = λ fails. absurd (fails (c.code.ensures.done refl))

pub returns-in-Ok-clause-kept3 : goal.returns-in-Ok-clause-kept3
returns-in-Ok-clause-kept3 c = λ fails. absurd (fails (c.code.ensures.done refl))

pub returns-in-Ok-clause-kept4 : goal.returns-in-Ok-clause-kept4
returns-in-Ok-clause-kept4 c = λ fails. absurd (fails (c.code.ensures.done refl))

pub returns-in-Ok-clause-kept5 : goal.returns-in-Ok-clause-kept5
returns-in-Ok-clause-kept5 c = λ fails. absurd (fails (c.code.ensures.done refl))

pub returns-in-Ok-clause-kept6 : goal.returns-in-Ok-clause-kept6
returns-in-Ok-clause-kept6 c = λ fails. absurd (fails (c.code.ensures.done refl))

pub returns-in-Ok-clause-kept7 : goal.returns-in-Ok-clause-kept7
returns-in-Ok-clause-kept7 c = λ fails. absurd (fails (c.code.ensures.done refl))

pub returns-in-Err-clause-kept0 : goal.returns-in-Err-clause-kept0
returns-in-Err-clause-kept0 c = λ fails. refl

pub returns-in-Err-clause-kept1 : goal.returns-in-Err-clause-kept1
returns-in-Err-clause-kept1 c = λ fails. refl

pub returns-in-Err-clause-kept2 : goal.returns-in-Err-clause-kept2
returns-in-Err-clause-kept2 c = λ fails. refl

pub returns-in-Err-clause-kept3 : goal.returns-in-Err-clause-kept3
returns-in-Err-clause-kept3 c = λ fails. refl

pub returns-in-Err-clause-kept4 : goal.returns-in-Err-clause-kept4
returns-in-Err-clause-kept4 c = λ fails. refl

pub returns-in-Err-clause-kept5 : goal.returns-in-Err-clause-kept5
returns-in-Err-clause-kept5 c = λ fails. refl

pub returns-in-Err-clause-kept6 : goal.returns-in-Err-clause-kept6
returns-in-Err-clause-kept6 c = λ fails. refl

pub returns-in-Err-clause-kept7 : goal.returns-in-Err-clause-kept7
returns-in-Err-clause-kept7 c = λ fails. refl
