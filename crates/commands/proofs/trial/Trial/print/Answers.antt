-- The line, and then what is shown.
use Rattle.rv_listing.specs.SinkLemmas.{told_err, told_part, told_then}
use Rattle.commands.proofs.trial.Trial.print.Goals as goal

pub returns-in_err-put_line-clause-told : goal.returns-in_err-put_line-clause-told
returns-in_err-put_line-clause-told g c = told_err c.from_residual.result _ _ _ _ _ c.from_residual.ensures.0 (told_part _ _ _ _ _ _ c.in_err-put_line.ensures)

pub returns-clause-told : goal.returns-clause-told
returns-clause-told g c = told_then c.print.result _ _ _ _ _ _ _ _ c.in_ok-put_line.ensures c.print.ensures.told
