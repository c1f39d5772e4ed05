use Rattle.std.proofs.Common.{ℕ, List, refl, slice_index, arith}
use Rattle.rv_listing.specs.SinkLemmas.{told_err}
use Rattle.monitor.specs.Texts.{register_text, registers_text}
use Rattle.monitor.proofs.TextLemmas.{texts_all, texts_more, texts_none, texts_stop}
use Rattle.monitor.proofs.texts.put_registers.Goals as goal

pub loop-number-init : goal.loop-number-init
loop-number-init g c = (texts_none _ _, refl)

pub loop-number-preserved : goal.loop-number-preserved
loop-number-preserved g c =
    let text : ℕ → List ℕ = λ number. register_text number (slice_index c.args.x.now number) in
    texts_more text c.loop-number.number _ _ _ _ _ _ c.loop-number.invariant c.in_ok-put_register.ensures

pub returns-in_err-put_register : goal.returns-in_err-put_register
unfolding registers_text
returns-in_err-put_register g c =
    let text : ℕ → List ℕ = λ number. register_text number (slice_index c.args.x.now number) in
    told_err c.from_residual.result _ _ _ _ _ c.from_residual.ensures.0
    (texts_stop c.in_err-put_register.field-0.0 text c.loop-number.number 32 _ _ _ _ _ _ (omega arith) c.loop-number.invariant c.in_err-put_register.ensures)

pub returns : goal.returns
unfolding registers_text
returns g c =
    let text : ℕ → List ℕ = λ number. register_text number (slice_index c.args.x.now number) in
    texts_all text c.loop-number.number 32 _ _ _ _ (omega arith) c.loop-number.invariant
