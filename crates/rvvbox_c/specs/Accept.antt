-- What a file is answered with: what it spells, where that passes the check, or why it is refused.
use Rattle.std.specs.Prelude.{ℕ, ◌≡◌, ◌⊎◌, ◌==◌, List, Option, Some, None, Result, Ok, Err, IsOk, if◌then◌else◌}
use Rattle.std.specs.Option.{option_map}
use Rattle.block_checker.specs.Accepted.{AcceptedView}
use Rattle.block_checker.specs.Passes.{Checked, checked}
use Rattle.cert_note.specs.Certificate.{CertificateView}
use Rattle.cert_note.specs.Reading.{certificate_of}
use Rattle.cert_note.specs.declared.refusals.CertError.{CertError}
use Rattle.cert_note.specs.declared.refusals.CertRefusal.{CertRefusal}
use Rattle.elf_image.specs.Faults.{fault_of}
use Rattle.elf_image.specs.File.{image_of}
use Rattle.elf_image.specs.Image.{ImageView}
use Rattle.elf_image.specs.declared.error.ElfError.{ElfError}
use Rattle.explanations.specs.Certificate.{IsPlace}
use Rattle.vreg_groups.specs.declared.policies.Agnostic.{Agnostic, TheVariants.Keep, TheVariants.Ones}
use Rattle.vreg_groups.specs.declared.vector_length.Vlen.{Vlen, TheVariants.V128, TheVariants.V256, TheVariants.V512}
use Rattle.rvvbox_c.specs.Status.{plain, image_refusal, certificate_refusal, check_refusal}
use Rattle.rvvbox_c.specs.declared.status.Refusal.{Refusal}
use Rattle.rvvbox_c.specs.declared.status.Status.TheVariants as status

-- the length of vector registers of `bits` bits
abbrev pub vlen_at : ℕ → Option Vlen
vlen_at bits =
    if bits == 128 then Some V128
    else (if bits == 256 then Some V256 else (if bits == 512 then Some V512 else None))

-- the setting of this number for agnostic elements
abbrev pub agnostic_at : ℕ → Option Agnostic
agnostic_at number =
    if number == 0 then Some Keep else (if number == 1 then Some Ones else None)

-- ---- why a file is not accepted

-- A refusal tells it, or bytes are no certificate.
pub data Why : Type 0 where
  Known : Refusal → Why
  Unread : List ℕ → CertError → Why

-- The refusal tells why. Of bytes that are no certificate it tells how many are read when they tell
-- the error.
abbrev pub Tells : Why → Refusal → Type 0
Tells (Known this) refusal = refusal ≡ this
Tells (Unread note error) refusal =
    (read : ℕ) × IsPlace note error read × (refusal ≡ certificate_refusal error read)

-- the same by a refusal that reading kept: one without a place tells of want of memory
abbrev pub unread_at : CertRefusal → Option ℕ → Refusal
unread_at refusal None = plain status.NoMemory
unread_at refusal (Some read) = certificate_refusal refusal.error read

abbrev pub unread : CertRefusal → Refusal
unread refusal = unread_at refusal refusal.place

-- ---- the certificate in an image's note

abbrev pub as_read : List ℕ → Result CertificateView CertError → Result CertificateView Why
as_read note (Ok certificate) = Ok certificate
as_read note (Err error) = Err (Unread note error)

abbrev pub certificate_in : Option (List ℕ) → Result CertificateView Why
certificate_in None = Err (Known (plain status.NoCertificate))
certificate_in (Some note) = as_read note (certificate_of note)

-- ---- the check

abbrev pub if_passed : AcceptedView → Checked → Result AcceptedView Why
if_passed a (Ok done) = Ok a
if_passed a (Err error) = Err (Known (check_refusal error))

abbrev pub if_certified :
    Vlen → ImageView → Result CertificateView Why → Result AcceptedView Why
if_certified vlen image (Err why) = Err why
if_certified vlen image (Ok certificate) =
    if_passed (record { image = image; certificate = certificate; vlen = vlen })
    (checked image certificate vlen)

abbrev pub if_faultless : Vlen → List ℕ → Option ElfError → Result AcceptedView Why
if_faultless vlen file (Some fault) = Err (Known (image_refusal fault))
if_faultless vlen file None =
    if_certified vlen (image_of file) (certificate_in (image_of file).certificate)

-- the image and the certificate that the file spells, where they pass the check, or why not
abbrev pub accepted_of : Vlen → List ℕ → Result AcceptedView Why
accepted_of vlen file = if_faultless vlen file (fault_of file)

-- the same for a length that may be missing
abbrev pub at_vlen : Option Vlen → List ℕ → Result AcceptedView Why
at_vlen None file = Err (Known (plain status.BadVlen))
at_vlen (Some vlen) file = accepted_of vlen file

abbrev pub answer_for : ℕ → List ℕ → Result AcceptedView Why
answer_for bits file = at_vlen (vlen_at bits) file

-- why a file is refused before memory is asked for: a length of registers that is none, or bytes
-- that spell no image
abbrev pub refused_at : Option Vlen → List ℕ → Option Refusal
refused_at None file = Some (plain status.BadVlen)
refused_at (Some vlen) file = option_map image_refusal (fault_of file)

abbrev pub refused_at_once : ℕ → List ℕ → Option Refusal
refused_at_once bits file = refused_at (vlen_at bits) file

-- A refusal tells why there is none of what is defined, or want of memory.
abbrev pub IsRefusalOf : {A : Type 0} → Result A Why → Refusal → Type 0
IsRefusalOf defined refusal =
    ((why : Why) × (defined ≡ Err why) × Tells why refusal) ⊎ (refusal ≡ plain status.NoMemory)

-- The answer: that all was done, where there is what is defined, or such a refusal.
abbrev pub IsAnswer : {A : Type 0} → Result A Why → Refusal → Type 0
IsAnswer defined refusal =
    (IsOk defined × (refusal ≡ plain status.Done)) ⊎ IsRefusalOf defined refusal
