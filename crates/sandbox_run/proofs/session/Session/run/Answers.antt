use Rattle.std.proofs.Common.{◌≡◌, ◌+◌, ◌-◌, ◌<◌, ◌∙◌, IsNone, IsSome, true, ap, refl, sym, rules, arith}
use Rattle.sandbox_run.specs.Session.{SessionView}
use Rattle.sandbox_run.specs.SessionLemmas.{after_none, after_more, not_ended}
use Rattle.machine.specs.Run.{has_ended}
use Rattle.machine.specs.RunLemmas.{outcome_from-next, outcome_from-ended}
use Rattle.std.proofs.lemmas.Grind.{common_steps}
use Rattle.sandbox_run.proofs.session.Session.run.Goals as goal

pub stepping-init : goal.stepping-init
stepping-init g c = record {
  grows = search rules;
  same = refl;
  opened = refl;
  parameters = refl;
  reached = after_none g.row.VLENB c.args.self.now.steps c.args.self.now.machine;
  first = refl;
}

pub stepping-preserved : goal.stepping-preserved
stepping-preserved g c =
    let some : IsSome c.step.result = search rules in
    let counts : c.step.new.self.steps ≡ c.stepping.self.steps + 1 = c.step.ensures.counts some in
    let going = not_ended c.stepping.self.machine c.step.result some c.step.ensures.end.1 in
    let below : c.stepping.self.steps < c.args.self.now.bound = omega (arith, counts, c.step.ensures.within, c.step.ensures.bound, c.stepping.invariant.same) in
    record {
      grows = omega (arith, c.stepping.invariant.grows);
      same = c.step.ensures.bound ∙ c.stepping.invariant.same;
      opened = c.step.ensures.first ∙ c.stepping.invariant.opened;
      parameters = c.step.ensures.parameters ∙ c.stepping.invariant.parameters;
      reached = rw counts (after_more g.row.VLENB c.args.self.now.steps c.stepping.self.steps c.args.self.now.machine c.stepping.self.machine c.step.new.self.machine c.stepping.invariant.grows c.stepping.invariant.reached (c.step.ensures.moves some));
      first = rw counts (sym (outcome_from-next g.row.VLENB c.args.self.now.bound c.stepping.self.steps c.stepping.self.machine c.step.new.self.machine below going (c.step.ensures.moves some)) ∙ c.stepping.invariant.first);
    }

pub returns-clause-first : goal.returns-clause-first
returns-clause-first g c =
    let none : IsNone c.step.result = search rules in
    let ended : has_ended c.stepping.self.machine ≡ true = c.step.ensures.end.0 none in
    let stays = c.step.ensures.stays none in
    let stopped = sym c.stepping.invariant.first ∙ outcome_from-ended g.row.VLENB (c.args.self.now.bound - c.stepping.self.steps) c.stepping.self.steps c.stepping.self.machine ended in
    let steps : c.self.inside.steps ≡ c.stepping.self.steps = ap (λ (v : SessionView). v.steps) (c.self.view_is ∙ stays) in
    let machine : c.step.new.self.machine ≡ c.stepping.self.machine = ap (λ (v : SessionView). v.machine) stays in
    rw (steps, machine) stopped

pub returns-clause-opened : goal.returns-clause-opened
returns-clause-opened g c = c.step.ensures.first ∙ c.stepping.invariant.opened

pub returns-clause-parameters : goal.returns-clause-parameters
returns-clause-parameters g c = c.step.ensures.parameters ∙ c.stepping.invariant.parameters

pub stepping-smaller : goal.stepping-smaller
stepping-smaller g c = grind (arith, common_steps)

pub returns-clause-ended : goal.returns-clause-ended
returns-clause-ended g c = grind (arith, common_steps)

pub returns-clause-steps : goal.returns-clause-steps
returns-clause-steps g c = grind (arith, common_steps)

pub returns-clause-grows : goal.returns-clause-grows
returns-clause-grows g c = grind (arith, common_steps)

pub returns-clause-after : goal.returns-clause-after
returns-clause-after g c = grind (arith, common_steps)
