use Rattle.std.proofs.Common.{◌+◌, ℕ, Bool, is_some, sym, ap, arith}
use Rattle.monitor.specs.Views.{has_bytes, byte_at}
use Rattle.monitor.proofs.ViewLemmas.{all_all, all_fails, all_more, all_none}
use Rattle.monitor.proofs.views.View.has_bytes.Goals as goal

pub loop-offset-init : goal.loop-offset-init
loop-offset-init g c = all_none _

pub loop-offset-preserved : goal.loop-offset-preserved
loop-offset-preserved g c =
    let test : ℕ → Bool = λ i. is_some (byte_at c.args.self.now.session.now.machine.memory (c.args.self.now.address + i)) in
    all_more test c.loop-offset.offset c.loop-offset.invariant (ap is_some (sym c.in-Some.ensures))

pub returns-in-None : goal.returns-in-None
unfolding has_bytes
returns-in-None g c =
    let test : ℕ → Bool = λ i. is_some (byte_at c.args.self.now.session.now.machine.memory (c.args.self.now.address + i)) in
    sym (all_fails test c.loop-offset.offset c.args.self.now.count c.loop-offset-test.true (ap is_some (sym c.in-None.ensures)))

pub returns : goal.returns
unfolding has_bytes
returns g c =
    let test : ℕ → Bool = λ i. is_some (byte_at c.args.self.now.session.now.machine.memory (c.args.self.now.address + i)) in
    sym (all_all test c.loop-offset.offset c.args.self.now.count (omega arith) c.loop-offset.invariant)
