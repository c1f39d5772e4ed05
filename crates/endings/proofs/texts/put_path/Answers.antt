-- The beginning of the line, the path, and the end of the line.
use Rattle.std.proofs.Common.{Err}
use Rattle.std.specs.Prelude.{codes}
use Rattle.job_reasons.specs.Escaped.{escaped_text}
use Rattle.rv_listing.specs.SinkLemmas.{told_err, told_part, told_then}
use Rattle.endings.proofs.texts.put_path.Goals as goal

pub returns-in_err-put : goal.returns-in_err-put
returns-in_err-put g c =
    told_err c.from_residual.result _ _ _ _ _ c.from_residual.ensures.0
    (told_part (g.E.Sink.contents c.args.errors.now) (g.E.Sink.contents c.put.new.out) (g.E.Sink.failures c.args.errors.now) (g.E.Sink.failures c.put.new.out) (codes "file: ") _ (rw (← c.as_slice.ensures) c.in_err-put.ensures))

pub returns-in_err-put_escaped : goal.returns-in_err-put_escaped
returns-in_err-put_escaped g c =
    told_err c.from_residual-in_err-put_escaped.result _ _ _ _ _ c.from_residual-in_err-put_escaped.ensures.0
    (told_then (Err c.in_err-put_escaped.field-0.0) (g.E.Sink.contents c.args.errors.now) (g.E.Sink.contents c.put.new.out) _ (g.E.Sink.failures c.args.errors.now) (g.E.Sink.failures c.put.new.out) _ (codes "file: ") _ (rw (← c.as_slice.ensures) c.in_ok-put.ensures)
    (told_part _ _ _ _ (escaped_text c.args.path.now) _ c.in_err-put_escaped.ensures))

pub returns : goal.returns
returns g c =
    told_then c.put-2.result (g.E.Sink.contents c.args.errors.now) (g.E.Sink.contents c.put.new.out) _ (g.E.Sink.failures c.args.errors.now) (g.E.Sink.failures c.put.new.out) _ (codes "file: ") _ (rw (← c.as_slice.ensures) c.in_ok-put.ensures)
    (told_then c.put-2.result _ (g.E.Sink.contents c.put_escaped.new.out) (g.E.Sink.contents c.put-2.new.out) _ (g.E.Sink.failures c.put_escaped.new.out) (g.E.Sink.failures c.put-2.new.out) (escaped_text c.args.path.now) (codes "\n") c.in_ok-put_escaped.ensures (rw (← c.as_slice-2.ensures) c.put-2.ensures))
