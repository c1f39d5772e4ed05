use Rattle.std.proofs.Common.{◌∙◌, Err, add-one, refl}
use Rattle.rv_listing.specs.SinkLemmas.{appends_both, told_err, told_part, told_then}
use Rattle.rv_listing.proofs.TextLemmas.{texts-next, texts-rest}
use Rattle.rv_listing.specs.Fields.{field_text, fields_text}
use Rattle.rv_listing.proofs.fields.put_rest.Goals as goal

pub returns-in_err-put_field : goal.returns-in_err-put_field
returns-in_err-put_field g c =
    let all = rw (← c.field-item.is) at (texts-rest field_text fields_text refl (λ p ps. refl) c.args.fields.now c.loop-field.field-index c.field-item.result c.loop-field-test.true) in
    let told = told_part _ _ _ _ _ _ c.in_err-put_field.ensures in
    rw (← all) (told_err c.from_residual.result _ _ _ _ _ c.from_residual.ensures.0
    (told_then (Err c.in_err-put_field.field-0) _ _ _ _ _ _ _ _ (c.loop-field.invariant.told, c.loop-field.invariant.same) told))

pub loop-field-preserved : goal.loop-field-preserved
loop-field-preserved g c =
    let next = rw (← c.field-item.is) at (texts-next field_text fields_text refl (λ p ps. refl) c.args.fields.now c.loop-field.field-index c.field-item.result c.loop-field-test.true) in
    record {
      told = rw (add-one c.loop-field.field-index, next) (appends_both _ _ _ _ _ c.loop-field.invariant.told c.in_ok-put_field.ensures.0);
      same = c.in_ok-put_field.ensures.1 ∙ c.loop-field.invariant.same;
    }
