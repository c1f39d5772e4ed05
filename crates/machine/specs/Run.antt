-- Runs: the state after some steps, and the outcome of a run with at most `max` steps.
use Rattle.std.specs.Prelude.{ℕ, zero, suc, ◌+◌, ◌==◌, ◌≡◌, ◌≤◌, ◌<◌, Bool, true, false, Result, Ok}
use Rattle.std.specs.Prelude.{Err, if◌then◌else◌}
use Rattle.scalar_core.specs.Hart.{exit}
use Rattle.vector_core.specs.Words.{Fault}
use Rattle.machine.specs.{Machine.Machine, MachineStep.step}

-- A run has ended where pc is EXIT.
abbrev pub has_ended : Machine → Bool
has_ended m = m.hart.pc == exit

-- the state that one step more leads to, where there is one
abbrev pub then_step : ℕ → Result Machine Fault → Result Machine Fault
then_step vlenb (Ok m) = step vlenb m
then_step vlenb (Err fault) = Err fault

-- the state after k steps, or the fault that the run met before
unfoldable pub after : ℕ → Machine → ℕ → Result Machine Fault
after vlenb m zero = Ok m
after vlenb m (suc k) = then_step vlenb (after vlenb m k)

-- how a run stops, after how many steps, and in which state
pub data Stop : Type 0 where
  Ended : ℕ → Machine → Stop
  Trapped : Fault → ℕ → Machine → Stop
  OutOfSteps : ℕ → Machine → Stop

-- the run from a state in which `steps` steps are done, with at most n more
unfoldable pub outcome_from : ℕ → ℕ → ℕ → Machine → Stop
outcome_from vlenb zero steps m = if has_ended m then Ended steps m else OutOfSteps steps m
outcome_from vlenb (suc n) steps m =
    if has_ended m then Ended steps m
    else elim (step vlenb m)
    [ Ok t ↦ outcome_from vlenb n (steps + 1) t | Err fault ↦ Trapped fault steps m ]

-- the run with at most `max` steps
unfoldable pub outcome : ℕ → ℕ → Machine → Stop
outcome vlenb max m = outcome_from vlenb max 0 m

-- Before step k the run neither ended nor met a fault.
abbrev pub GoesOnUntil : ℕ → Machine → ℕ → Type 0
GoesOnUntil vlenb s k =
    (j : ℕ) → j < k → (t : Machine) × (after vlenb s j ≡ Ok t) × (has_ended t ≡ false)

-- The run from s stops so: at the least k at which it has ended, or k is `max`, or the next step is
-- a fault, in this order.
abbrev pub IsOutcome : ℕ → ℕ → Machine → Stop → Type 0
IsOutcome vlenb max s (Ended k t) =
    (k ≤ max) × (after vlenb s k ≡ Ok t) × (has_ended t ≡ true) × GoesOnUntil vlenb s k
IsOutcome vlenb max s (OutOfSteps k t) =
    (k ≡ max) × (after vlenb s k ≡ Ok t) × (has_ended t ≡ false) × GoesOnUntil vlenb s k
IsOutcome vlenb max s (Trapped fault k t) =
    (k < max) × (after vlenb s k ≡ Ok t) × (has_ended t ≡ false) × (step vlenb t ≡ Err fault)
    × GoesOnUntil vlenb s k

-- Each outcome is the first of these.
abbrev pub OutcomeIsFirst : Type 0
OutcomeIsFirst = (vlenb max : ℕ) (s : Machine) → IsOutcome vlenb max s (outcome vlenb max s)

-- A run from the state after j steps goes on as the run does.
abbrev pub RunsGoOn : Type 0
RunsGoOn =
    (vlenb : ℕ) (s : Machine) (j k : ℕ) (t : Machine) → after vlenb s j ≡ Ok t
    → after vlenb s (j + k) ≡ after vlenb t k
