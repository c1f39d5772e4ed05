use Rattle.std.proofs.Common.{◌∙◌, Err, add-one, refl}
use Rattle.rv_listing.specs.SinkLemmas.{appends_both, told_err, told_part, told_then}
use Rattle.monitor.proofs.TextLemmas.{bytes_none, bytes-next, bytes-rest}
use Rattle.monitor.proofs.texts.put_bytes.Goals as goal

pub loop-byte-init : goal.loop-byte-init
loop-byte-init g c = record { told = bytes_none c.args.bytes.now _; same = refl }

pub returns-in_err-put_byte : goal.returns-in_err-put_byte
returns-in_err-put_byte g c =
    let all = bytes-rest c.args.bytes.now c.loop-byte.byte-index c.loop-byte-test.true in
    let told = told_part _ _ _ _ _ _ c.in_err-put_byte.ensures in
    told_err c.from_residual.result _ _ _ _ _ c.from_residual.ensures.0
    (rw (← all) (told_then (Err c.in_err-put_byte.field-0.0) _ _ _ _ _ _ _ _ (c.loop-byte.invariant.told, c.loop-byte.invariant.same) told))

pub loop-byte-preserved : goal.loop-byte-preserved
loop-byte-preserved g c =
    let next = bytes-next c.args.bytes.now c.loop-byte.byte-index c.loop-byte-test.true in
    record {
      told = rw (add-one c.loop-byte.byte-index, next) (appends_both _ _ _ _ _ c.loop-byte.invariant.told c.in_ok-put_byte.ensures.0);
      same = c.in_ok-put_byte.ensures.1 ∙ c.loop-byte.invariant.same;
    }
