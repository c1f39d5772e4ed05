-- A run of an accepted image, at whichever length of vector registers.
use Rattle.std.specs.Prelude.{ℕ}
use Rattle.sandbox_run.specs.Session.{SessionView}
use Rattle.sandbox_run.specs.declared.any_session.AnySession.{AnySession, TheVariants.V128, TheVariants.V256, TheVariants.V512}

-- the run
abbrev pub run_in : AnySession → SessionView
run_in (V128 session) = session
run_in (V256 session) = session
run_in (V512 session) = session

-- the bytes of its vector registers
abbrev pub vlenb_in : AnySession → ℕ
vlenb_in (V128 session) = 16
vlenb_in (V256 session) = 32
vlenb_in (V512 session) = 64
