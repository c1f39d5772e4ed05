use Rattle.std.proofs.Common.{◌≡◌, ◌≤◌, ◌-◌, Ok}
use Rattle.machine.specs.Run.{after, outcome, outcome_from}
use Rattle.sandbox_run.specs.Answer.{last_pc}
use Rattle.sandbox_run.proofs.run.run.Given as goal

-- the steps so far led here, the outcome from here is that of the run, and the last step was done from there
abbrev pub invariant-stepping : goal.invariant-stepping
invariant-stepping g l = record {
  within : l.steps ≤ l.max;
  outcome : outcome_from g.row.VLENB (l.max - l.steps) l.steps l.machine ≡ outcome g.row.VLENB l.max l.fn.machine;
  reached : after g.row.VLENB l.fn.machine l.steps ≡ Ok l.machine;
  last : l.last ≡ last_pc g.row.VLENB l.fn.machine l.steps;
}

abbrev pub decreases-stepping : goal.decreases-stepping
decreases-stepping g l = l.max - l.steps
