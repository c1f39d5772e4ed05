use Rattle.std.proofs.Common.{◌≡◌, ℕ, ◌+◌, arith, sym, ap, ◌∙◌, subst}
use Rattle.scalar_core.specs.Hart.{Hart, with_reg}
use Rattle.machine.specs.Start.{passed_at, start_hart}
use Rattle.machine.proofs.StartLemmas.{IsBegun, begun_all, begun_first, begun_more}
use Rattle.machine.proofs.starts.start_hart.Goals as goal

pub loop-register-init : goal.loop-register-init
loop-register-init g c =
    let passed = passed_at c.args.parameters.now c.args.places.now in
    subst (λ (h : Hart). IsBegun c.args.entry passed 1 h) (sym c.new-hart.ensures) (begun_first c.args.entry passed)

pub loop-register-preserved : goal.loop-register-preserved
loop-register-preserved g c =
    let passed = passed_at c.args.parameters.now c.args.places.now in
    let n = c.loop-register.register in
    let written = c.set_reg.ensures ∙ ap (λ (r : ℕ). with_reg r c.start_number.result c.loop-register.hart) c.new.ensures in
    subst (λ (h : Hart). IsBegun c.args.entry passed (n + 1) h) (sym written)
    (begun_more c.args.entry passed n c.start_number.result c.loop-register.hart (omega (arith, c.loop-register.auto.register)) c.loop-register-test.true
    c.start_number.ensures c.loop-register.invariant)

pub returns : goal.returns
unfolding start_hart
returns g c =
    let passed = passed_at c.args.parameters.now c.args.places.now in
    let all : c.loop-register.register ≡ 32 = omega (arith, c.loop-register-test.false, c.loop-register.auto.register-end (omega arith)) in
    begun_all c.args.entry passed c.loop-register.hart
    (subst (λ (n : ℕ). IsBegun c.args.entry passed n c.loop-register.hart) all c.loop-register.invariant)
