-- A run of an accepted image from `open` to `close`.
use Rattle.std.specs.Prelude.{ℕ, ◌≡◌, ◌≤◌, true, List, length}
use Rattle.sandbox_run.specs.Back.{ComesBack}
use Rattle.sandbox_run.specs.Session.{IsOpened, SessionView}
use Rattle.sandbox_run.specs.Stops.{IsStop}
use Rattle.sandbox_run.specs.Words.{AcceptedView, Agnostic, AllByRecursion, AreArguments, Argument, BringsBytes, Machine, args_of, bound_of, has_ended, scalars_of, start, vlenb_of}

-- From its first state the run has ended after `steps` steps, at most the bound, here and in no
-- state before. What is handed back here comes back of what was passed, and matches the parameters.
-- Each session that is opened on these arguments ends after these steps, and here.
pub record IsWholeRun (vlenb : ℕ) (agnostic : Agnostic) (a : AcceptedView) (args : List Argument)
    : Type 0 where
  pub steps : ℕ
  pub last : Machine
  pub within : steps ≤ bound_of a (scalars_of args)
  pub stop : IsStop vlenb (start vlenb agnostic a.image a.certificate.parameters args) steps last
  pub ended : has_ended last ≡ true
  pub back : ComesBack a.certificate.parameters args (args_of last.memory)
  pub matching : AreArguments a.certificate.parameters (args_of last.memory)
  pub only : (max : ℕ) (opened done : SessionView) → IsOpened vlenb agnostic a args max opened
      → done.first ≡ opened.first → IsStop vlenb done.first done.steps done.machine
      → has_ended done.machine ≡ true → (done.steps ≡ steps) × (done.machine ≡ last)

-- So is each run of an accepted image on arguments that match, with any setting for agnostic
-- elements.
abbrev pub SessionsAreRuns : AcceptedView → Type 0
SessionsAreRuns a =
    (args : List Argument) (agnostic : Agnostic) → length args ≡ 8
    → AreArguments a.certificate.parameters args → AllByRecursion BringsBytes args
    → IsWholeRun (vlenb_of a.vlen) agnostic a args
