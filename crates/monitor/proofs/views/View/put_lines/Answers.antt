use Rattle.std.proofs.Common.{◌+◌, ◌*◌, ℕ, List, refl, arith}
use Rattle.rv_listing.specs.SinkLemmas.{told_err}
use Rattle.monitor.specs.Texts.{line_text}
use Rattle.monitor.specs.Views.{word_at, lines_text}
use Rattle.monitor.proofs.TextLemmas.{texts_all, texts_more, texts_none, texts_stop}
use Rattle.monitor.proofs.views.View.put_lines.Goals as goal

pub loop-place-init : goal.loop-place-init
loop-place-init g c = (texts_none _ _, refl)

pub loop-place-preserved : goal.loop-place-preserved
loop-place-preserved g c =
    let text : ℕ → List ℕ = λ i. line_text (c.args.self.now.address + 4 * i) (word_at c.args.self.now.session.now.machine.memory (c.args.self.now.address + 4 * i)) in
    texts_more text c.loop-place.place _ _ _ _ _ _ c.loop-place.invariant c.in_ok-put_line_from.ensures

pub returns-in_err-put_line_from : goal.returns-in_err-put_line_from
unfolding lines_text
returns-in_err-put_line_from g c =
    let text : ℕ → List ℕ = λ i. line_text (c.args.self.now.address + 4 * i) (word_at c.args.self.now.session.now.machine.memory (c.args.self.now.address + 4 * i)) in
    told_err c.from_residual.result _ _ _ _ _ c.from_residual.ensures.0
    (texts_stop c.in_err-put_line_from.field-0.0 text c.loop-place.place c.args.self.now.count _ _ _ _ _ _ c.loop-place-test.true c.loop-place.invariant c.in_err-put_line_from.ensures)

pub returns : goal.returns
unfolding lines_text
returns g c =
    let text : ℕ → List ℕ = λ i. line_text (c.args.self.now.address + 4 * i) (word_at c.args.self.now.session.now.machine.memory (c.args.self.now.address + 4 * i)) in
    texts_all text c.loop-place.place c.args.self.now.count _ _ _ _ (omega arith) c.loop-place.invariant
