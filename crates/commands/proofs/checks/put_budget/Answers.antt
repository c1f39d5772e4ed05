-- The constant, the first register, and the second one.
use Rattle.std.proofs.Common.{Err}
use Rattle.std.specs.Fmt.{decimal}
use Rattle.std.proofs.lemmas.List.{append-nil}
use Rattle.cert_note.specs.Values.{product_text}
use Rattle.rv_listing.specs.SinkLemmas.{told_err, told_part, told_then}
use Rattle.commands.proofs.checks.put_budget.Goals as goal

pub returns-in_err-put_all : goal.returns-in_err-put_all
returns-in_err-put_all g c =
    told_err c.from_residual.result _ _ _ _ _ c.from_residual.ensures.0
    (told_part _ _ _ _ (decimal c.args.budget.now.constant) _ (rw (append-nil (decimal c.args.budget.now.constant)) at c.in_err-put_all.ensures))

pub returns-in_err-put_product : goal.returns-in_err-put_product
returns-in_err-put_product g c =
    told_err c.from_residual-in_err-put_product.result _ _ _ _ _ c.from_residual-in_err-put_product.ensures.0
    (told_then (Err c.in_err-put_product.field-0.0) _ (g.O.Sink.contents c.put_all.new.out) _ _ (g.O.Sink.failures c.put_all.new.out) _ (decimal c.args.budget.now.constant) _ (rw (append-nil (decimal c.args.budget.now.constant)) at c.in_ok-put_all.ensures)
    (told_part _ _ _ _ (product_text c.args.budget.now.factor c.args.budget.now.register) _ c.in_err-put_product.ensures))

pub returns : goal.returns
returns g c =
    told_then c.put_second.result _ (g.O.Sink.contents c.put_all.new.out) _ _ (g.O.Sink.failures c.put_all.new.out) _ (decimal c.args.budget.now.constant) _ (rw (append-nil (decimal c.args.budget.now.constant)) at c.in_ok-put_all.ensures)
    (told_then c.put_second.result _ (g.O.Sink.contents c.put_product.new.output) _ _ (g.O.Sink.failures c.put_product.new.output) _ (product_text c.args.budget.now.factor c.args.budget.now.register) _ c.in_ok-put_product.ensures c.put_second.ensures)
