use Rattle.std.proofs.Common.{◌≡◌, ◌≤◌, ◌+◌, ◌-◌, Ok}
use Rattle.machine.specs.Run.{after, outcome_from}
use Rattle.sandbox_run.proofs.session.Session.run_at_most.Given as goal

-- the steps so far led here and were not more than asked for, what it was opened with is as it was, and the outcome from here is that from the start
abbrev pub invariant-stepping : goal.invariant-stepping
invariant-stepping g l = record {
  grows : l.fn.self.steps ≤ l.self.steps;
  count : l.self.steps + l.left ≡ l.fn.self.steps + l.fn.most;
  within : l.self.steps ≤ l.self.bound;
  same : l.self.bound ≡ l.fn.self.bound;
  opened : l.self.first ≡ l.fn.self.first;
  parameters : l.self.parameters ≡ l.fn.self.parameters;
  reached : after g.row.VLENB l.fn.self.machine (l.self.steps - l.fn.self.steps) ≡ Ok l.self.machine;
  outcome : outcome_from g.row.VLENB l.left l.self.steps l.self.machine
      ≡ outcome_from g.row.VLENB l.fn.most l.fn.self.steps l.fn.self.machine;
}

abbrev pub decreases-stepping : goal.decreases-stepping
decreases-stepping g l = l.left
