-- What a session was opened on.
use Rattle.std.specs.Prelude.{ℕ, ◌≡◌, List}
use Rattle.block_checker.specs.Accepted.{AcceptedView}
use Rattle.sandbox_run.specs.AnySession.{run_in, vlenb_in}
use Rattle.sandbox_run.specs.Session.{IsOpened}
use Rattle.sandbox_run.specs.declared.any_session.AnySession.{AnySession}
use Rattle.vreg_groups.specs.VectorLength.{vlenb_of}
use Rattle.vreg_groups.specs.declared.policies.Agnostic.{Agnostic}
use Rattle.rvvbox_c.specs.Forms.{all_in, forms_of}
use Rattle.rvvbox_c.specs.Runs.{number_of}
use Rattle.rvvbox_c.specs.declared.forms.Forms.{Forms}

-- A run of an accepted image, at the length of registers that it was accepted for, with agnostic
-- elements kept (0) or filled with ones (1), stands at its first state: on copies of these bytes,
-- which match the image's parameters, with a bound of at most `max` steps.
pub record HasOpened (number : ℕ) (a : AcceptedView) (forms : Forms) (bytes : List (List ℕ))
    (max : ℕ) (s : AnySession) : Type 0 where
  pub agnostic : Agnostic
  pub numbered : number ≡ number_of agnostic
  pub vlenb : vlenb_in s ≡ vlenb_of a.vlen
  pub opened : IsOpened (vlenb_of a.vlen) agnostic a (all_in (forms_of forms) bytes bytes) max
      (run_in s)
