-- The steps that a command does.
use Rattle.std.specs.Prelude.{◌≡◌, ◌+◌, ◌<◌, ◌≤◌, ℕ, Bool, true, false, ◌||◌, ◌==◌, List, Ok}
use Rattle.std.specs.List.{list_any}
use Rattle.sandbox_run.specs.Session.{SessionView}
use Rattle.machine.specs.Machine.{Machine}
use Rattle.machine.specs.Run.{after, has_ended, GoesOnUntil}

-- `j` steps, and nothing else: they are counted, and the run is the one that was opened
pub record Does (vlenb j : ℕ) (old new : SessionView) : Type 0 where
  pub leads : after vlenb old.machine j ≡ Ok new.machine
  pub counted : new.steps ≡ old.steps + j
  pub bound : new.bound ≡ old.bound
  pub opened : new.first ≡ old.first
  pub parameters : new.parameters ≡ old.parameters
  pub going : GoesOnUntil vlenb old.machine j

-- a state at which a run that goes on stops
abbrev pub stops : List ℕ → Machine → Bool
stops breakpoints m = has_ended m || list_any (λ b. b == m.hart.pc) breakpoints

-- the least number of steps, one at least, to a breakpoint or the end; none where the run has ended
pub record GoesOn (vlenb : ℕ) (breakpoints : List ℕ) (old new : SessionView) : Type 0 where
  pub j : ℕ
  pub does : Does vlenb j old new
  pub none : has_ended old.machine ≡ true → j ≡ 0
  pub some : has_ended old.machine ≡ false → 0 < j
  pub stopped : stops breakpoints new.machine ≡ true
  pub first : (i : ℕ) → 0 < i → i < j → (m : Machine) → after vlenb old.machine i ≡ Ok m
      → stops breakpoints m ≡ false

-- the lesser of n and the steps that are left
pub record Steps (vlenb n : ℕ) (old new : SessionView) : Type 0 where
  pub j : ℕ
  pub does : Does vlenb j old new
  pub most : j ≤ n
  pub fewer : j < n → has_ended new.machine ≡ true
