use Rattle.std.proofs.Common.{◌+◌, ◌*◌, ℕ, Bool, is_some, sym, ap, arith}
use Rattle.monitor.specs.Views.{has_words, word_at}
use Rattle.monitor.proofs.ViewLemmas.{all_all, all_fails, all_more, all_none}
use Rattle.monitor.proofs.views.View.has_words.Goals as goal

pub loop-place-init : goal.loop-place-init
loop-place-init g c = all_none _

pub loop-place-preserved : goal.loop-place-preserved
loop-place-preserved g c =
    let test : ℕ → Bool = λ i. is_some (word_at c.args.self.now.session.now.machine.memory (c.args.self.now.address + 4 * i)) in
    all_more test c.loop-place.place c.loop-place.invariant (ap is_some (sym c.in-Some.ensures))

pub returns-in-None : goal.returns-in-None
unfolding has_words
returns-in-None g c =
    let test : ℕ → Bool = λ i. is_some (word_at c.args.self.now.session.now.machine.memory (c.args.self.now.address + 4 * i)) in
    sym (all_fails test c.loop-place.place c.args.self.now.count c.loop-place-test.true (ap is_some (sym c.in-None.ensures)))

pub returns : goal.returns
unfolding has_words
returns g c =
    let test : ℕ → Bool = λ i. is_some (word_at c.args.self.now.session.now.machine.memory (c.args.self.now.address + 4 * i)) in
    sym (all_all test c.loop-place.place c.args.self.now.count (omega arith) c.loop-place.invariant)
