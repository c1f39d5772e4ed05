-- What a run answers.
use Rattle.std.specs.Prelude.{ℕ, zero, suc, List, Option, Some, None, Result, Ok, Err}
use Rattle.machine.specs.Registers.{registers_of}
use Rattle.sandbox_run.specs.Words.{after, args_of, Fault, Machine, Stop, Ended, Trapped, OutOfSteps}
use Rattle.sandbox_run.specs.declared.outcome.{Final.Final, Outcome.Outcome}
use Rattle.sandbox_run.specs.declared.outcome.Outcome.TheVariants as outcome

-- a machine after `steps` steps, as a run hands it out
abbrev pub final_of : (vlenb : ℕ) → ℕ → Machine → Final vlenb (List ℕ)
final_of vlenb steps m = record {
  steps = steps;
  registers = registers_of m;
  vectors = m.vectors.registers;
  args = record { places = args_of m.memory };
}

-- the answer of a run that stops so
abbrev pub answer_of : (vlenb : ℕ) → Stop → Outcome vlenb (List ℕ)
answer_of vlenb (Ended steps m) = outcome.Ended (final_of vlenb steps m)
answer_of vlenb (Trapped fault steps m) = outcome.Trapped fault (final_of vlenb steps m)
answer_of vlenb (OutOfSteps steps m) = outcome.OutOfSteps (final_of vlenb steps m)

-- ---- where the last step was done from

-- pc of a state, where there is one
abbrev pub pc_in : Result Machine Fault → Option ℕ
pc_in (Ok m) = Some m.hart.pc
pc_in (Err fault) = None

-- pc of the state before the last of a number of steps from a state
abbrev pub last_pc : ℕ → Machine → ℕ → Option ℕ
last_pc vlenb first zero = None
last_pc vlenb first (suc k) = pc_in (after vlenb first k)

-- how many steps of a run were done
abbrev pub steps_of : (vlenb : ℕ) → Outcome vlenb (List ℕ) → ℕ
steps_of vlenb (outcome.Ended last) = last.steps
steps_of vlenb (outcome.Trapped fault last) = last.steps
steps_of vlenb (outcome.OutOfSteps last) = last.steps
