use Rattle.std.proofs.Common.{◌+◌, ◌-◌, ◌≤◌, sym, arith}
use Rattle.sandbox_run.specs.SessionLemmas.{no_fault, step-well}
use Rattle.sandbox_run.proofs.StopLemmas.{stop_after_step}
use Rattle.std.proofs.lemmas.Grind.{common_steps}
use Rattle.sandbox_run.proofs.session.Session.step.Goals as goal

pub overflow_add-self : goal.overflow_add-self
overflow_add-self g c =
    let more = step-well g.row.VLENB c.self.inside.steps c.self.inside.bound c.self.inside.machine c.step.new.self c.self.invariant.1 (sym c.if-has_ended.ensures) c.in-Ok.ensures in
    let within : c.self.inside.steps + 1 ≤ c.self.inside.bound = more.0 in
    omega arith

pub invariant_of-self : goal.invariant_of-self
invariant_of-self g c =
    let going = sym c.if-has_ended.ensures in
    let more = step-well g.row.VLENB c.self.inside.steps c.self.inside.bound c.self.inside.machine c.step.new.self c.self.invariant.1 going c.in-Ok.ensures in
    let stop = stop_after_step g.row.VLENB c.self.inside.steps c.self.inside.first.value c.self.inside.machine c.step.new.self c.self.invariant.2 going c.in-Ok.ensures in
    (more.0, more.1, stop, c.self.invariant.3)

pub unreachable-requires : goal.unreachable-requires
unreachable-requires g c =
    no_fault g.row.VLENB (c.self.inside.bound - c.self.inside.steps) c.self.inside.machine c.in-Err.field-0 c.self.invariant.1 (sym c.if-has_ended.ensures) c.in-Err.ensures.0

pub returns-clause-within : goal.returns-clause-within
returns-clause-within g c =
    let more = step-well g.row.VLENB c.self.inside.steps c.self.inside.bound c.self.inside.machine c.step.new.self c.self.invariant.1 (sym c.if-has_ended.ensures) c.in-Ok.ensures in more.0

pub returns-then-has_ended-clause-counts : goal.returns-then-has_ended-clause-counts
returns-then-has_ended-clause-counts g c = grind (arith, common_steps)

pub returns-then-has_ended-clause-within : goal.returns-then-has_ended-clause-within
returns-then-has_ended-clause-within g c = grind (arith, common_steps)

pub returns-clause-counts : goal.returns-clause-counts
returns-clause-counts g c = grind (arith, common_steps)

pub returns-clause-bound : goal.returns-clause-bound
returns-clause-bound g c = grind (arith, common_steps)
