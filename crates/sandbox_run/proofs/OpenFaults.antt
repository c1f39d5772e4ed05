-- Which reason not to open a run is the answer.
use Rattle.std.proofs.Common.{◌≡◌, ℕ, ◌<◌, ◌≤◌, List, Some, None, refl, arith}
use Rattle.std.proofs.lemmas.Bool.Decides.{nat_tests}
use Rattle.region_mem.specs.Parameter.{Argument, AreArguments, argument_error}
use Rattle.region_mem.specs.declared.parameter.ArgError.{ArgError}
use Rattle.block_checker.specs.Accepted.{AcceptedView}
use Rattle.block_checker.specs.Bound.{bound_of, scalars_of}
use Rattle.vreg_groups.specs.VectorLength.{vlenb_of}
use Rattle.sandbox_run.specs.Errors.{open_error_of}
use Rattle.sandbox_run.specs.Session.{open_fault}
use Rattle.sandbox_run.specs.declared.outcome.OpenError.TheVariants.{BoundTooLarge, WrongVlen}

module _ (vlenb : ℕ) (a : AcceptedView) (args : List Argument) (max : ℕ) where
  pub arguments_fault : (error : ArgError) → argument_error a.certificate.parameters args ≡ Some error
      → open_fault vlenb a args max ≡ Some (open_error_of error)
  unfolding open_fault
  arguments_fault error is = rw is refl

  pub bound_fault : AreArguments a.certificate.parameters args → max < bound_of a (scalars_of args)
      → open_fault vlenb a args max ≡ Some BoundTooLarge
  unfolding open_fault
  bound_fault matching above = rw matching (grind (arith, nat_tests, above))

  pub length_fault_told : AreArguments a.certificate.parameters args → bound_of a (scalars_of args) ≤ max
      → (vlenb_of a.vlen ≡ vlenb → ⊥) → open_fault vlenb a args max ≡ Some WrongVlen
  unfolding open_fault
  length_fault_told matching within other = rw matching (grind (arith, nat_tests, within, other))

  pub no_open_fault : AreArguments a.certificate.parameters args → bound_of a (scalars_of args) ≤ max
      → vlenb_of a.vlen ≡ vlenb → open_fault vlenb a args max ≡ None
  unfolding open_fault
  no_open_fault matching within same = rw matching (grind (arith, nat_tests, within, same))
