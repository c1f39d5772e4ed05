-- The theorem on accepted images.
use Rattle.std.specs.Prelude.{ℕ, ◌≡◌, ◌<◌, ◌≤◌, true, List, length, Ok}
use Rattle.machine.specs.Touches.{ReadsInside, WritesInside}
use Rattle.sandbox_run.specs.Words.{AcceptedView, Agnostic, AllByRecursion, AreArguments, Argument, BringsBytes, GoesOnUntil, IsPermittedIn, IsPermittedStep, Keeps, Machine, after, bound_of, has_ended, scalars_of, start, vlenb_of}

-- After at most n steps without a fault the run from here has ended, and in no state before. Each
-- byte that one of them fetched, loaded or stored was permitted, also by the areas and rights of the start. A step
-- changes no byte but those that its list of accesses writes, and goes by no byte but those that it
-- fetches and that the list reads. All the way memory keeps where its areas lie, their rights, what
-- was passed, and each byte that may not be written.
pub record RunsWell (vlenb n : ℕ) (first : Machine) : Type 0 where
  pub steps : ℕ
  pub last : Machine
  pub within : steps ≤ n
  pub leads : after vlenb first steps ≡ Ok last
  pub ended : has_ended last ≡ true
  pub goes_on : GoesOnUntil vlenb first steps
  pub permitted : (j : ℕ) → j < steps → (m : Machine) → after vlenb first j ≡ Ok m
      → IsPermittedStep vlenb m
  pub mapped : (j : ℕ) → j < steps → (m : Machine) → after vlenb first j ≡ Ok m
      → IsPermittedIn first.memory vlenb m
  pub writes : (j : ℕ) → j < steps → (m : Machine) → after vlenb first j ≡ Ok m
      → WritesInside vlenb m
  pub reads : (j : ℕ) → j < steps → (m : Machine) → after vlenb first j ≡ Ok m
      → ReadsInside vlenb m
  pub keeps : (j : ℕ) → j ≤ steps → (m : Machine) → after vlenb first j ≡ Ok m
      → Keeps first.memory m.memory

-- An accepted image, run with any arguments that match its parameters, and any setting for agnostic
-- elements, does so within the bound of its certificate for the scalars among them.
abbrev pub AcceptedRuns : AcceptedView → Type 0
AcceptedRuns a =
    (args : List Argument) (agnostic : Agnostic) → length args ≡ 8
    → AreArguments a.certificate.parameters args → AllByRecursion BringsBytes args
    → RunsWell (vlenb_of a.vlen) (bound_of a (scalars_of args))
    (start (vlenb_of a.vlen) agnostic a.image a.certificate.parameters args)
