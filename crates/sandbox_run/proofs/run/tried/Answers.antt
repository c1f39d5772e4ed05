use Rattle.std.proofs.Common.{sym, arith}
use Rattle.sandbox_run.proofs.Refusals.{refused_by-err}
use Rattle.std.proofs.lemmas.Grind.{common_steps}
use Rattle.sandbox_run.proofs.run.tried.Goals as goal

pub returns-in-Err-clause-refused : goal.returns-in-Err-clause-refused
returns-in-Err-clause-refused g c = rw (refused_by-err _ _ (sym c.in-Err.ensures.meaning)) c.from.ensures

pub returns-in-Err-clause-memory : goal.returns-in-Err-clause-memory
returns-in-Err-clause-memory g c = λ none. cc (refused_by-err _ _ (sym c.in-Err.ensures.meaning))

pub returns-in-Ok-clause-refused : goal.returns-in-Ok-clause-refused
returns-in-Ok-clause-refused g c = rw c.in_default.ensures.matching tt

pub returns-in-Err-start-clause-refused : goal.returns-in-Err-start-clause-refused
returns-in-Err-start-clause-refused g c = rw c.in_default.ensures.matching tt

pub start-requires : goal.start-requires
start-requires g c = grind (arith, common_steps)

pub run-requires : goal.run-requires
run-requires g c = grind (arith, common_steps)

pub returns-in-Err-start-clause-back : goal.returns-in-Err-start-clause-back
returns-in-Err-start-clause-back g c = grind (arith, common_steps)
