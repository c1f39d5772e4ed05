use Rattle.rv_listing.specs.Fields.{fields_text}
use Rattle.rv_listing.specs.SinkLemmas.{told_err, told_then, told_part}
use Rattle.rv_listing.proofs.TextLemmas.{head_text}
use Rattle.rv_listing.proofs.fields.put_fields.Goals as goal

pub returns : goal.returns
returns g c =
    rw (← head_text c.args.name.now c.args.form.now (fields_text c.args.fields.now))
    (told_then c.put_rest.result _ _ _ _ _ _ _ _ c.in_ok-put_all.ensures c.put_rest.ensures)

pub returns-in_err-put_all : goal.returns-in_err-put_all
returns-in_err-put_all g c =
    rw (← head_text c.args.name.now c.args.form.now (fields_text c.args.fields.now))
    (told_err c.from_residual.result _ _ _ _ _ c.from_residual.ensures.0
    (told_part _ _ _ _ _ (fields_text c.args.fields.now) c.in_err-put_all.ensures))
