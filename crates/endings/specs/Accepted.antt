-- What comes of an image with a certificate: whether it is accepted.
use Rattle.std.specs.Prelude.{◌≡◌, ◌⊎◌, ℕ, List, Option, Some, None, Result, Ok, Err, IfErr, MatchResult, unwrap_or}
use Rattle.cert_note.specs.Reading.{certificate_of}
use Rattle.vreg_groups.specs.declared.vector_length.Vlen.{Vlen}
use Rattle.endings.specs.Ending.{stop_of_certificate, stop_of_check}
use Rattle.endings.specs.Words.{AcceptedView, CertError, CertificateView, Checked, ImageView, Stop, checked}
use Rattle.endings.specs.declared.stop.Stop.TheVariants as stop

-- ---- the certificate

abbrev pub as_read : Result CertificateView CertError → Result CertificateView Stop
as_read (Ok certificate) = Ok certificate
as_read (Err error) = Err (stop_of_certificate error)

-- the certificate that the bytes of an image's note spell, or the reason to stop
abbrev pub certificate_in : Option (List ℕ) → Result CertificateView Stop
certificate_in None = Err stop.NoCertificate
certificate_in (Some bytes) = as_read (certificate_of bytes)

-- ---- the check

abbrev pub if_passed : AcceptedView → Checked → Result AcceptedView Stop
if_passed a (Ok done) = Ok a
if_passed a (Err error) = Err (stop_of_check error)

-- at this length of vector registers, or else at the certificate's own
abbrev pub with_vlen : Option Vlen → ImageView → CertificateView → AcceptedView
with_vlen vlen image certificate = record {
  image = image;
  certificate = certificate;
  vlen = unwrap_or vlen certificate.vlen;
}

abbrev pub if_certified : Option Vlen → ImageView → Result CertificateView Stop
    → Result AcceptedView Stop
if_certified vlen image (Err reason) = Err reason
if_certified vlen image (Ok certificate) =
    let a = with_vlen vlen image certificate in
    if_passed a (checked a.image a.certificate a.vlen)

-- an image with its certificate, where they pass the check, or the reason to stop
abbrev pub accepted_of : Option Vlen → ImageView → Result AcceptedView Stop
accepted_of vlen image = if_certified vlen image (certificate_in image.certificate)

-- the answer is what is defined, or want of memory
abbrev pub IsOrWant : {A : Type 0} → Result A Stop → Result A Stop → Type 0
IsOrWant defined answer = (answer ≡ defined) ⊎ (answer ≡ Err stop.Memory)

-- the same, but that an earlier step's reason to stop is the answer
abbrev pub IsOrWantAfter : {A B : Type 0} → Result A Stop → Result B Stop → Result B Stop → Type 0
IsOrWantAfter first defined answer =
    IfErr first (λ reason. answer ≡ Err reason) × IsOrWant defined answer

-- the answer is what is defined, but that memory may run out where no reason to stop is defined
abbrev pub OrMemory : {A : Type 0} → Result A Stop → Result A Stop → Type 0
OrMemory (Err reason) answer = answer ≡ Err reason
OrMemory (Ok value) answer = MatchResult answer (λ a. a ≡ value) (λ reason. reason ≡ stop.Memory)
