-- An image that passed the check with its certificate, and what a check answers.
use Rattle.std.specs.Prelude.{◌≡◌, ◌⊎◌, Ok, Err}
use Rattle.block_checker.specs.Words.{ImageView, Vlen, CertificateView}
use Rattle.block_checker.specs.declared.errors.CheckError.TheVariants.{NoMemory}
use Rattle.block_checker.specs.Passes.{Checked, checked}

pub record AcceptedView : Type 0 where
  pub image : ImageView
  pub certificate : CertificateView
  pub vlen : Vlen

-- The check of these passes.
abbrev pub Passes : AcceptedView → Type 0
Passes a = checked a.image a.certificate a.vlen ≡ Ok tt

-- this answer, or want of memory
abbrev pub IsAnswer : Checked → Checked → Type 0
IsAnswer result answer = (result ≡ answer) ⊎ (result ≡ Err NoMemory)
