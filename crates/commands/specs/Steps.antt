-- Why a subcommand stops, step by step, and the explanation of that. `wrote xs` says that the files
-- `xs` were written.
use Rattle.std.specs.Prelude.{◌≡◌, ◌⊎◌, [], Option, Some, None, Result, Ok, Err}
use Rattle.job_file.specs.declared.values.JobError.TheVariants.{BadKey}
use Rattle.endings.specs.Accepted.{IsOrWantAfter}
use Rattle.endings.specs.Halt.{stop_of}
use Rattle.commands.specs.Words.{Halt, Stop, Written}
use Rattle.endings.specs.declared.stop.Stop.TheVariants as stop

-- a step fails, before any file was written, or it comes to a value, and a later step stops
abbrev pub StopsAt : {A : Type 0} → (Written → Type 0) → (Halt → Type 0) → (A → Type 0)
    → (A → Halt → Type 0) → Halt → Type 0
StopsAt {A} wrote fails comes later why = (fails why × wrote [])
    ⊎ ((a : A) × comes a × later a why)

-- the same of a step that answers what is defined, or, after a first part of it, want of memory:
-- `explains` says what the explanation is
abbrev pub StopsAtResult : {A B : Type 0} → (Written → Type 0) → Result A Stop → Result B Stop
    → (Halt → Type 0) → (B → Halt → Type 0) → Halt → Type 0
StopsAtResult wrote first defined explains =
    StopsAt wrote (λ why. IsOrWantAfter first defined (Err (stop_of why)) × explains why)
    (λ b. defined ≡ Ok b)

-- a table that does not ask for the job
abbrev pub IsUnasked : {J : Type 0} → Option J → Stop → Type 0
IsUnasked asked reason = (asked ≡ None) × (reason ≡ stop.Job BadKey)

-- a step that takes the job that a table asks for: it asks for none, or a later step stops
abbrev pub StopsAtJob : {J : Type 0} → (Written → Type 0) → Option J → (Halt → Type 0)
    → (J → Halt → Type 0) → Halt → Type 0
StopsAtJob wrote asked explains =
    StopsAt wrote (λ why. IsUnasked asked (stop_of why) × explains why) (λ job. asked ≡ Some job)
