-- The session is that of the arguments, and what it hands back comes out.
use Rattle.std.proofs.Common.{ℕ, ◌≤◌, refl, sym, subst, arith}
use Rattle.std.proofs.lemmas.Grind.{common_steps}
use Rattle.rvvbox_c.proofs.RunLemmas.{is_run}
use Rattle.rvvbox_c.proofs.runs.run_at.Goals as goal

pub returns-in-Ok-clause-ran : goal.returns-in-Ok-clause-ran
returns-in-Ok-clause-ran g c = record {
  last = c.run-steps.new.self.machine;
  run = is_run g.row.VLENB c.args.agnostic c.args.accepted.now c.args.args.places c.args.args.places c.in-Ok.session
      c.run-steps.result c.run-steps.new.self.machine c.run-steps.new.self.bound refl c.in-Ok.ensures.opened.matching c.in-Ok.ensures.opened.machine
      c.in-Ok.ensures.opened.steps c.in-Ok.ensures.opened.bound c.run-steps.ensures.first c.run-steps.ensures.bound
      (subst (λ (n : ℕ). n ≤ c.run-steps.new.self.bound) (sym c.run-steps.ensures.steps) c.run-steps.ensures.within);
  is = c.close_into.ensures.places;
}

pub returns-in-Err-clause-refused : goal.returns-in-Err-clause-refused
returns-in-Err-clause-refused g c = grind (arith, common_steps)
