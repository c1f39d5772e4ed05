-- A run of an image that was accepted.
use Rattle.std.specs.Prelude.{ℕ, ◌≡◌, ◌≤◌, ◌==◌, nat_le, List, Option, Some, None, if◌then◌else◌}
use Rattle.std.specs.Option.{option_map, option_or}
use Rattle.sandbox_run.specs.Back.{ComesBack}
use Rattle.sandbox_run.specs.Errors.{open_error_of}
use Rattle.sandbox_run.specs.Words.{AcceptedView, Agnostic, AreArguments, Argument, Keeps, Machine, Memory, Param, args_of, argument_error, bound_of, scalars_of, start, vlenb_of}
use Rattle.sandbox_run.specs.declared.outcome.OpenError.{OpenError, TheVariants.BoundTooLarge, TheVariants.WrongVlen}

-- the state of the machine, the steps done so far, and the most that the whole run may take; the
-- state that the run was opened in, and the parameters of its image
pub record SessionView : Type 0 where
  pub machine : Machine
  pub steps : ℕ
  pub bound : ℕ
  pub first : Machine
  pub parameters : List Param

-- The arguments in this memory match the parameters, and they come back from each memory that keeps
-- it.
abbrev pub HandsBack : List Param → Memory → Type 0
HandsBack parameters memory =
    AreArguments parameters (args_of memory)
    × ((next : Memory) → Keeps memory next → ComesBack parameters (args_of memory) (args_of next))

-- registers of another length than the one that the image was accepted for
abbrev pub length_fault : ℕ → AcceptedView → Option OpenError
length_fault vlenb a = if vlenb_of a.vlen == vlenb then None else Some WrongVlen

-- why no run is opened: arguments that do not match the parameters, a bound above `max`, another
-- length of registers, in this order
unfoldable pub open_fault : ℕ → AcceptedView → List Argument → ℕ → Option OpenError
open_fault vlenb a args max =
    option_or (option_map open_error_of (argument_error a.certificate.parameters args))
    (if nat_le (bound_of a (scalars_of args)) max then length_fault vlenb a else Some BoundTooLarge)

-- A session at the first state of a run of the accepted image on these arguments, which match its
-- parameters, with no steps done and the bound for their scalars, at most `max`.
pub record IsOpened (vlenb : ℕ) (agnostic : Agnostic) (a : AcceptedView) (args : List Argument)
    (max : ℕ) (s : SessionView) : Type 0 where
  pub machine : s.machine ≡ start vlenb agnostic a.image a.certificate.parameters args
  pub steps : s.steps ≡ 0
  pub bound : s.bound ≡ bound_of a (scalars_of args)
  pub within : s.bound ≤ max
  pub matching : AreArguments a.certificate.parameters args
  pub first : s.first ≡ s.machine
  pub parameters : s.parameters ≡ a.certificate.parameters
  pub passed : args_of s.first.memory ≡ args
