use Rattle.std.proofs.Common.{rules, ◌≡◌, ◌-◌, suc, false, IsNone, IsSome, arith}
use Rattle.sandbox_run.specs.SessionLemmas.{not_ended}
use Rattle.machine.specs.Run.{has_ended}
use Rattle.monitor.proofs.MoveLemmas.{goes_nowhere, goes_past, does_one, does_more, no_stop_more}
use Rattle.std.proofs.lemmas.Grind.{common_steps}
use Rattle.monitor.proofs.moves.go_on.Goals as goal

pub returns-then-is_none : goal.returns-then-is_none
returns-then-is_none g c =
    let none : IsNone c.step.result = search rules in
    goes_nowhere g.row.VLENB c.args.breakpoints.now c.args.session.now c.step.new.self (c.step.ensures.end.0 none) (c.step.ensures.stays none)

pub stepping-init : goal.stepping-init
stepping-init g c =
    let some : IsSome c.step.result = search rules in
    record {
      some = omega (arith, c.step.ensures.counts some);
      does = does_one g.row.VLENB c.args.session.now c.step.new.self (not_ended c.args.session.now.machine c.step.result some c.step.ensures.end.1) (c.step.ensures.moves some) (c.step.ensures.counts some) c.step.ensures.bound c.step.ensures.first c.step.ensures.parameters;
      first = λ i above below. absurd (omega (arith, above, below, c.step.ensures.counts some));
    }

pub stepping-preserved : goal.stepping-preserved
stepping-preserved g c =
    let some : IsSome c.step-in-stepping.result = search rules in
    let counts = c.step-in-stepping.ensures.counts some in
    let going : has_ended c.stepping.session.machine ≡ false = not_ended c.stepping.session.machine c.step-in-stepping.result some c.step-in-stepping.ensures.end.1 in
    let past = goes_past c.args.breakpoints.now c.stepping.session.machine c.pc.result c.contains.result going c.pc.ensures c.contains.ensures.value c.stepping-test.true in
    let more : c.step-in-stepping.new.self.steps - c.args.session.now.steps ≡ suc (c.stepping.session.steps - c.args.session.now.steps)
    = omega (arith, counts, c.stepping.invariant.some) in
    record {
      some = omega (arith, counts, c.stepping.invariant.some);
      does = rw more (does_more g.row.VLENB _ c.args.session.now c.stepping.session c.step-in-stepping.new.self c.stepping.invariant.does going
          (c.step-in-stepping.ensures.moves some) counts c.step-in-stepping.ensures.bound c.step-in-stepping.ensures.first c.step-in-stepping.ensures.parameters);
      first = rw more (no_stop_more g.row.VLENB c.args.breakpoints.now c.args.session.now c.stepping.session _ c.stepping.invariant.first c.stepping.invariant.does past);
    }

pub stepping-smaller : goal.stepping-smaller
stepping-smaller g c = grind (arith, common_steps)

pub returns-else-is_some : goal.returns-else-is_some
returns-else-is_some g c = grind (arith, common_steps)
