-- Where a run of an accepted image may be stopped, and what holds there.
use Rattle.std.specs.Prelude.{ℕ, ◌≡◌, ◌<◌, ◌≤◌, List, length, Ok}
use Rattle.sandbox_run.specs.Words.{AcceptedView, Agnostic, AllByRecursion, AreArguments, Argument, BringsBytes, GoesOnUntil, IsPermittedIn, Keeps, Machine, after, bound_of, scalars_of, start, vlenb_of}

-- After `steps` steps from the first state the run stands here, and in no state before had it
-- ended.
abbrev pub IsStop : ℕ → Machine → ℕ → Machine → Type 0
IsStop vlenb first steps m = (after vlenb first steps ≡ Ok m) × GoesOnUntil vlenb first steps

-- Such a stop comes after at most n steps. The areas and rights of the start permitted each step.
-- Memory has kept where these lie, the rights, what was passed, and each byte that may not be
-- written.
pub record StopsWell (vlenb n : ℕ) (first : Machine) (steps : ℕ) (m : Machine) : Type 0 where
  pub within : steps ≤ n
  pub permitted : (j : ℕ) → j < steps → (u : Machine) → after vlenb first j ≡ Ok u
      → IsPermittedIn first.memory vlenb u
  pub keeps : Keeps first.memory m.memory

-- Each stop of a run of an accepted image is one, by the bound for the scalars among the arguments.
abbrev pub AcceptedStops : AcceptedView → Type 0
AcceptedStops a =
    (args : List Argument) (agnostic : Agnostic) (steps : ℕ) (m : Machine) → length args ≡ 8
    → AreArguments a.certificate.parameters args → AllByRecursion BringsBytes args
    → IsStop (vlenb_of a.vlen)
    (start (vlenb_of a.vlen) agnostic a.image a.certificate.parameters args) steps m
    → StopsWell (vlenb_of a.vlen) (bound_of a (scalars_of args))
    (start (vlenb_of a.vlen) agnostic a.image a.certificate.parameters args) steps m
