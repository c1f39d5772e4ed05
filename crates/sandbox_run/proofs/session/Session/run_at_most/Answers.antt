use Rattle.std.proofs.Common.{◌≡◌, ◌+◌, ◌<◌, ◌∙◌, true, IsNone, IsSome, refl, sym, rules, arith}
use Rattle.sandbox_run.specs.SessionLemmas.{after_none, after_more, not_ended}
use Rattle.sandbox_run.proofs.GoingLemmas.{outcome_from-step, outcome_from-stops}
use Rattle.machine.specs.Run.{has_ended}
use Rattle.sandbox_run.proofs.session.Session.run_at_most.Goals as goal
use Rattle.sandbox_run.proofs.session.Session.run_at_most.Goals.{else-stepping-test, then-stepping-test+then-is_none}

pub stepping-init : goal.stepping-init
stepping-init g c = record {
  grows = search rules;
  count = refl;
  same = refl;
  within = c.stands.ensures.within;
  opened = refl;
  parameters = refl;
  reached = after_none g.row.VLENB c.args.self.now.steps c.args.self.now.machine;
  outcome = refl;
}

pub stepping-preserved : goal.stepping-preserved
stepping-preserved g c =
    let some : IsSome c.step.result = search rules in
    let counts : c.step.new.self.steps ≡ c.stepping.self.steps + 1 = c.step.ensures.counts some in
    let going = not_ended c.stepping.self.machine c.step.result some c.step.ensures.end.1 in
    let more : 0 < c.stepping.left = search rules in
    record {
      grows = omega (arith, counts, c.stepping.invariant.grows);
      count = omega (arith, counts, more, c.stepping.invariant.count);
      same = c.step.ensures.bound ∙ c.stepping.invariant.same;
      within = c.step.ensures.within;
      opened = c.step.ensures.first ∙ c.stepping.invariant.opened;
      parameters = c.step.ensures.parameters ∙ c.stepping.invariant.parameters;
      reached = rw counts (after_more g.row.VLENB c.args.self.now.steps c.stepping.self.steps c.args.self.now.machine c.stepping.self.machine c.step.new.self.machine c.stepping.invariant.grows c.stepping.invariant.reached (c.step.ensures.moves some));
      outcome = rw counts (sym (outcome_from-step g.row.VLENB c.stepping.left c.stepping.self.steps c.stepping.self.machine c.step.new.self.machine more going (c.step.ensures.moves some)) ∙ c.stepping.invariant.outcome);
    }

pub returns-clause-outcome : goal.returns-clause-outcome
returns-clause-outcome g c =
    elim c.stepping-test.branch [
      | else-stepping-test w ↦
          let none : c.stepping.left ≡ 0 = omega (arith, w.stepping-test.false) in
          rw w.self-is (sym c.stepping.invariant.outcome ∙ outcome_from-stops g.row.VLENB c.stepping.left c.stepping.self.steps c.stepping.self.machine c.is_ended.result (rw w.self-is at c.is_ended.ensures) (λ _. none))
      | then-stepping-test+then-is_none w ↦
          let none : IsNone w.step.result = search rules in
          let ended : has_ended c.stepping.self.machine ≡ true = w.step.ensures.end.0 none in
          let stays : c.stepping-test.self ≡ c.stepping.self = w.self-is ∙ w.step.ensures.stays none in
          let is : c.is_ended.result ≡ has_ended c.stepping.self.machine = rw stays at c.is_ended.ensures in
          rw stays (sym c.stepping.invariant.outcome ∙ outcome_from-stops g.row.VLENB c.stepping.left c.stepping.self.steps c.stepping.self.machine c.is_ended.result is (λ going. cc (going, is, ended)))
    ]

pub returns-clause-within : goal.returns-clause-within
returns-clause-within g c =
    elim c.stepping-test.branch [
      | else-stepping-test w ↦ rw w.self-is c.stepping.invariant.within
      | then-stepping-test+then-is_none w ↦ rw w.self-is w.step.ensures.within
    ]
