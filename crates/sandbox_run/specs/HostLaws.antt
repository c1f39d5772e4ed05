-- Laws of runs for those who run kernels.
use Rattle.std.specs.Prelude.{ℕ, ◌≡◌, ◌≤◌, ◌-◌, true, List, length}
use Rattle.sandbox_run.specs.Answer.{answer_of, final_of}
use Rattle.sandbox_run.specs.Stops.{IsStop}
use Rattle.sandbox_run.specs.Words.{AcceptedView, Agnostic, AllByRecursion, AreArguments, Argument, BringsBytes, Ended, ImageView, Machine, OutOfSteps, Param, Stop, Trapped, bound_of, has_ended, outcome, outcome_from, scalars_of, start, vlenb_of}
use Rattle.sandbox_run.specs.declared.outcome.Outcome.TheVariants as answer

-- What the outcome of a run with some steps allowed says of its outcome with more, `max`: an end
-- and a fault stay, and out of steps the run goes on from where it stands.
abbrev pub SaysOfMore : ℕ → ℕ → Machine → Stop → Type 0
SaysOfMore vlenb max first (Ended k t) = outcome vlenb max first ≡ Ended k t
SaysOfMore vlenb max first (Trapped fault k t) = outcome vlenb max first ≡ Trapped fault k t
SaysOfMore vlenb max first (OutOfSteps k t) =
    outcome vlenb max first ≡ outcome_from vlenb (max - k) k t

-- So it is of every run.
abbrev pub MoreStepsChangeNothing : Type 0
MoreStepsChangeNothing =
    (vlenb n max : ℕ) (first : Machine) → n ≤ max
    → SaysOfMore vlenb max first (outcome vlenb n first)

-- A run ends after one number of steps and in one state.
abbrev pub StepsAreUnique : Type 0
StepsAreUnique =
    (vlenb j k : ℕ) (first t u : Machine) → IsStop vlenb first j t → has_ended t ≡ true
    → IsStop vlenb first k u → has_ended u ≡ true → (j ≡ k) × (t ≡ u)

-- The first state goes by the image's entry and segments, the parameters and the arguments, and by
-- no certificate.
abbrev pub StartsAreAlike : Type 0
StartsAreAlike =
    (vlenb : ℕ) (agnostic : Agnostic) (image other : ImageView) (params : List Param)
    (args : List Argument)
    → image.entry ≡ other.entry → image.segments ≡ other.segments
    → start vlenb agnostic image params args ≡ start vlenb agnostic other params args

-- With at least as many steps as the bound a run of an accepted image has ended, and what it
-- answers is the end of the run with the bound.
abbrev pub TriesAreRuns : AcceptedView → Type 0
TriesAreRuns a =
    (args : List Argument) (agnostic : Agnostic) (max : ℕ) → length args ≡ 8
    → AreArguments a.certificate.parameters args → AllByRecursion BringsBytes args
    → bound_of a (scalars_of args) ≤ max
    → let vlenb = vlenb_of a.vlen in
    let first = start vlenb agnostic a.image a.certificate.parameters args in
    (k : ℕ) × (t : Machine) × (outcome vlenb (bound_of a (scalars_of args)) first ≡ Ended k t)
    × (answer_of vlenb (outcome vlenb max first) ≡ answer.Ended (final_of vlenb k t))
