-- The beginning of the line, the budget, and the end of the line.
use Rattle.std.proofs.Common.{Err}
use Rattle.std.specs.Prelude.{codes}
use Rattle.cert_note.specs.Values.{budget_text}
use Rattle.rv_listing.specs.SinkLemmas.{told_err, told_part, told_then}
use Rattle.commands.proofs.checks.put_bound.Goals as goal

pub returns-in_err-put_all : goal.returns-in_err-put_all
returns-in_err-put_all g c =
    told_err c.from_residual.result _ _ _ _ _ c.from_residual.ensures.0
    (told_part _ _ _ _ (codes "accepted: bound ") _ c.in_err-put_all.ensures)

pub returns-in_err-put_budget : goal.returns-in_err-put_budget
returns-in_err-put_budget g c =
    told_err c.from_residual-in_err-put_budget.result _ _ _ _ _ c.from_residual-in_err-put_budget.ensures.0
    (told_then (Err c.in_err-put_budget.field-0.0) _ (g.O.Sink.contents c.put_all.new.out) _ _ (g.O.Sink.failures c.put_all.new.out) _ (codes "accepted: bound ") _ c.in_ok-put_all.ensures
    (told_part _ _ _ _ (budget_text c.args.budget.now) _ c.in_err-put_budget.ensures))

pub returns : goal.returns
returns g c =
    told_then c.put_all-2.result _ (g.O.Sink.contents c.put_all.new.out) _ _ (g.O.Sink.failures c.put_all.new.out) _ (codes "accepted: bound ") _ c.in_ok-put_all.ensures
    (told_then c.put_all-2.result _ (g.O.Sink.contents c.put_budget.new.output) _ _ (g.O.Sink.failures c.put_budget.new.output) _ (budget_text c.args.budget.now) _ c.in_ok-put_budget.ensures c.put_all-2.ensures)
