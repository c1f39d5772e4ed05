use Rattle.std.proofs.Common.{◌+◌, ℕ, List, refl, arith}
use Rattle.rv_listing.specs.SinkLemmas.{told_err}
use Rattle.monitor.specs.Texts.{byte_text}
use Rattle.monitor.specs.Views.{byte_at}
use Rattle.monitor.proofs.TextLemmas.{texts_all, texts_more, texts_none, texts_stop}
use Rattle.monitor.proofs.views.View.put_bytes.Goals as goal

pub loop-offset-init : goal.loop-offset-init
loop-offset-init g c = (texts_none _ _, refl)

pub loop-offset-preserved : goal.loop-offset-preserved
loop-offset-preserved g c =
    let text : ℕ → List ℕ = λ i. byte_text (byte_at c.args.self.now.session.now.machine.memory (c.args.self.now.address + i)) in
    texts_more text c.loop-offset.offset _ _ _ _ _ _ c.loop-offset.invariant c.in_ok-put_byte_after.ensures

pub returns-in_err-put_byte_after : goal.returns-in_err-put_byte_after
returns-in_err-put_byte_after g c =
    let text : ℕ → List ℕ = λ i. byte_text (byte_at c.args.self.now.session.now.machine.memory (c.args.self.now.address + i)) in
    told_err c.from_residual.result _ _ _ _ _ c.from_residual.ensures.0
    (texts_stop c.in_err-put_byte_after.field-0.0 text c.loop-offset.offset c.args.self.now.count _ _ _ _ _ _ c.loop-offset-test.true c.loop-offset.invariant c.in_err-put_byte_after.ensures)

pub returns : goal.returns
returns g c =
    let text : ℕ → List ℕ = λ i. byte_text (byte_at c.args.self.now.session.now.machine.memory (c.args.self.now.address + i)) in
    texts_all text c.loop-offset.offset c.args.self.now.count _ _ _ _ (omega arith) c.loop-offset.invariant
