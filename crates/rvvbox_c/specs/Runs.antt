-- A run on the host's own bytes: what is passed, how it ends, and what is put back.
use Rattle.std.specs.Prelude.{ℕ, ◌≡◌, ◌≤◌, List}
use Rattle.region_mem.specs.Memory.{args_of}
use Rattle.region_mem.specs.Parameter.{Argument, AreArguments}
use Rattle.vreg_groups.specs.declared.policies.Agnostic.{Agnostic, TheVariants.Keep, TheVariants.Ones}
use Rattle.vreg_groups.specs.VectorLength.{vlenb_of}
use Rattle.machine.specs.Machine.{Machine}
use Rattle.machine.specs.Start.{start}
use Rattle.machine.specs.Run.{outcome, Ended}
use Rattle.block_checker.specs.Accepted.{AcceptedView}
use Rattle.block_checker.specs.Bound.{bound_of, scalars_of}
use Rattle.sandbox_run.specs.declared.outcome.OpenError.{OpenError}
use Rattle.sandbox_run.specs.declared.outcome.OpenError.TheVariants as open_error
use Rattle.rvvbox_c.specs.Forms.{all_in, all_left, forms_of, numbers_in}
use Rattle.rvvbox_c.specs.Scalars.{by_place}
use Rattle.rvvbox_c.specs.Status.{at_place, plain, too_long}
use Rattle.rvvbox_c.specs.declared.forms.Forms.{Forms}
use Rattle.rvvbox_c.specs.declared.status.Refusal.{Refusal}
use Rattle.rvvbox_c.specs.declared.status.Status.TheVariants as status

-- the setting's number for agnostic elements
abbrev pub number_of : Agnostic → ℕ
number_of Keep = 0
number_of Ones = 1

-- A run of an accepted image on these arguments ends after `steps` steps, in this state: they
-- match the image's parameters, and the steps are no more than its bound.
pub record IsRun (vlenb : ℕ) (agnostic : Agnostic) (a : AcceptedView) (args : List Argument)
    (steps : ℕ) (last : Machine) : Type 0 where
  pub matching : AreArguments a.certificate.parameters args
  pub within : steps ≤ bound_of a (scalars_of args)
  pub ended : outcome vlenb (bound_of a (scalars_of args))
      (start vlenb agnostic a.image a.certificate.parameters args) ≡ Ended steps last

-- Such a run ends, and these arguments come out.
pub record Gives (vlenb : ℕ) (agnostic : Agnostic) (a : AcceptedView) (args : List Argument)
    (steps : ℕ) (left : List Argument) : Type 0 where
  pub last : Machine
  pub run : IsRun vlenb agnostic a args steps last
  pub is : left ≡ args_of last.memory

-- Such a run was done at the length of registers that the image was accepted for, with agnostic
-- elements kept (0) or filled with ones (1), on what the forms name of these bytes; and what it left
-- of those at the places that are put back stands there.
pub record HasRun (number : ℕ) (a : AcceptedView) (forms : Forms) (reads old new : List (List ℕ))
    (steps : ℕ) : Type 0 where
  pub agnostic : Agnostic
  pub numbered : number ≡ number_of agnostic
  pub out : List Argument
  pub gives : Gives (vlenb_of a.vlen) agnostic a (all_in (forms_of forms) reads old) steps out
  pub put : new ≡ all_left out (forms_of forms) old

-- why a run of an accepted image is not begun: the place of an argument, or the most steps that it
-- may take
abbrev pub open_refusal : AcceptedView → Forms → OpenError → Refusal
open_refusal a forms (open_error.WrongKind place) = at_place status.WrongKind place
open_refusal a forms (open_error.ScalarOutOfInterval place) =
    at_place status.ScalarOutOfInterval place
open_refusal a forms (open_error.WrongSize place) = at_place status.WrongSize place
open_refusal a forms open_error.BoundTooLarge =
    too_long (bound_of a (by_place (numbers_in forms)))
open_refusal a forms open_error.WrongVlen = plain status.WrongVlen
open_refusal a forms open_error.NoMemory = plain status.NoMemory
