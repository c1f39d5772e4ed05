use Rattle.std.proofs.Common.{◌≡◌, ◌∙◌, ap, arith, subst}
use Rattle.region_mem.specs.Memory.{args_of}
use Rattle.sandbox_run.specs.Session.{HandsBack, SessionView}
use Rattle.sandbox_run.specs.Stops.{IsStop}
use Rattle.sandbox_run.proofs.Back.{matches_again, scalars_again}
use Rattle.sandbox_run.proofs.StopLemmas.{comes_back_here}
use Rattle.std.proofs.lemmas.Grind.{common_steps}
use Rattle.sandbox_run.proofs.session.Session.close_into.Goals as goal

-- the state comes of the run, and what comes out is in its memory
pub returns-clause-back : goal.returns-clause-back
returns-clause-back g c =
    let s = c.args.self in
    let stop : IsStop g.row.VLENB s.first s.steps s.machine = subst (λ (v : SessionView). IsStop g.row.VLENB v.first v.steps v.machine) c.self.view_is c.self.invariant.2 in
    let hands : HandsBack s.parameters s.first.memory = subst (λ (v : SessionView). HandsBack v.parameters v.first.memory) c.self.view_is c.self.invariant.3 in
    let places : c.into_spare-args.result.0.places ≡ args_of s.machine.memory =
    c.into_spare-args.ensures ∙ ap (λ (v : SessionView). args_of v.machine.memory) c.self.view_is in
    rw places (comes_back_here c.runs_keep_memory.ensures g.row.VLENB s stop hands)

pub returns-clause-scalars : goal.returns-clause-scalars
returns-clause-scalars g c = scalars_again c.args.self.parameters _ _ (returns-clause-back g c)

pub returns-clause-matching : goal.returns-clause-matching
returns-clause-matching g c =
    let s = c.args.self in
    let hands : HandsBack s.parameters s.first.memory = subst (λ (v : SessionView). HandsBack v.parameters v.first.memory) c.self.view_is c.self.invariant.3 in
    matches_again s.parameters _ _ (returns-clause-back g c) hands.0

pub returns-clause-places : goal.returns-clause-places
returns-clause-places g c = grind (arith, common_steps)
