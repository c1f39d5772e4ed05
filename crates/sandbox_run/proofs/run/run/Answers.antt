use Rattle.std.proofs.Common.{◌≡◌, ◌-◌, Some, arith, refl, rules, sym, ap, ◌∙◌}
use Rattle.machine.specs.Machine.{Machine}
use Rattle.machine.specs.Run.{after, outcome, outcome_from}
use Rattle.sandbox_run.specs.declared.outcome.Outcome.TheVariants.{Ended, Trapped, OutOfSteps}
use Rattle.sandbox_run.specs.Answer.{answer_of, final_of}
use Rattle.machine.specs.RunLemmas.{outcome_from-next, outcome_from-trap, outcome_from-ended, outcome_from-out}
use Rattle.sandbox_run.proofs.LastLemmas.{after_one_more, last_pc_one_more}
use Rattle.std.proofs.lemmas.Grind.{common_steps}
use Rattle.sandbox_run.proofs.run.run.Goals as goal

pub returns-then-has_ended-clause-outcome : goal.returns-then-has_ended-clause-outcome
returns-then-has_ended-clause-outcome g c =
    ap Ended c.finish.ensures
    ∙ ap (answer_of g.row.VLENB) (sym (outcome_from-ended _ _ _ _ (sym c.if-has_ended.ensures)) ∙ c.stepping.invariant.outcome)

pub returns-then-has_ended-clause-last : goal.returns-then-has_ended-clause-last
returns-then-has_ended-clause-last g c = rw c.finish.ensures c.stepping.invariant.last

pub returns-then-steps-max-clause-outcome : goal.returns-then-steps-max-clause-outcome
returns-then-steps-max-clause-outcome g c =
    ap OutOfSteps c.finish-then-steps-max.ensures
    ∙ ap (answer_of g.row.VLENB) (sym (outcome_from-out _ _ _ _ c.if-steps-max.true (sym c.if-has_ended.ensures)) ∙ c.stepping.invariant.outcome)

pub returns-then-steps-max-clause-last : goal.returns-then-steps-max-clause-last
returns-then-steps-max-clause-last g c = rw c.finish-then-steps-max.ensures c.stepping.invariant.last

pub returns-in-Err-clause-outcome : goal.returns-in-Err-clause-outcome
returns-in-Err-clause-outcome g c =
    ap (Trapped c.in-Err.fault) (c.finish-in-Err.ensures ∙ ap (final_of g.row.VLENB c.stepping.steps) c.in-Err.ensures.1)
    ∙ ap (answer_of g.row.VLENB) (sym (outcome_from-trap _ _ _ _ _ (omega arith) (sym c.if-has_ended.ensures) c.in-Err.ensures.0) ∙ c.stepping.invariant.outcome)

pub returns-in-Err-clause-last : goal.returns-in-Err-clause-last
returns-in-Err-clause-last g c = rw c.finish-in-Err.ensures c.stepping.invariant.last

pub stepping-preserved : goal.stepping-preserved
stepping-preserved g c =
    let from : c.machine.inside.hart.pc ≡ c.stepping.machine.hart.pc = ap (λ (m : Machine). m.hart.pc) c.machine.view_is in
    record {
      within = omega arith;
      outcome = sym (outcome_from-next g.row.VLENB _ _ _ _ (omega arith) (search rules) (search rules)) ∙ c.stepping.invariant.outcome;
      reached = after_one_more g.row.VLENB _ _ _ _ c.stepping.invariant.reached (search rules);
      last = ap Some (c.pc-pc.ensures ∙ from) ∙ sym (last_pc_one_more g.row.VLENB _ _ _ c.stepping.invariant.reached);
    }

pub stepping-init : goal.stepping-init
unfolding outcome after
stepping-init g c =
    let whole : c.args.max - 0 ≡ c.args.max = omega arith in
    record {
      within = omega arith;
      outcome = ap (λ n. outcome_from g.row.VLENB n 0 c.args.machine) whole;
      reached = refl;
      last = refl;
    }

pub finish-requires : goal.finish-requires
unfolding outcome
finish-requires g c = grind (arith, common_steps)

pub finish-requires-in-Err : goal.finish-requires-in-Err
unfolding outcome
finish-requires-in-Err g c = grind (arith, common_steps)
