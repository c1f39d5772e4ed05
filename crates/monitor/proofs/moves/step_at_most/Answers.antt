use Rattle.std.proofs.Common.{rules, IsSome, add-one}
use Rattle.sandbox_run.specs.SessionLemmas.{not_ended}
use Rattle.monitor.proofs.MoveLemmas.{does_none, does_more}
use Rattle.monitor.proofs.moves.step_at_most.Goals as goal

pub stepping-init : goal.stepping-init
stepping-init g c = does_none g.row.VLENB c.args.session.now

pub stepping-preserved : goal.stepping-preserved
stepping-preserved g c =
    let some : IsSome c.step.result = search rules in
    rw (add-one c.stepping._done)
    (does_more g.row.VLENB c.stepping._done c.args.session.now c.stepping.session c.step.new.self c.stepping.invariant
    (not_ended c.stepping.session.machine c.step.result some c.step.ensures.end.1)
    (c.step.ensures.moves some) (c.step.ensures.counts some) c.step.ensures.bound c.step.ensures.first c.step.ensures.parameters)
