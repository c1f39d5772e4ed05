-- Why a file is refused, in words: those of the reason that `explanations` or `check_reasons` tells.
use Rattle.std.specs.Prelude.{ℕ, ◌≡◌, ◌⊎◌, ◌++◌, List, [], length, min, take, drop, codes, Option, None, Some, Result, Ok, Err}
use Rattle.std.specs.declared.alloc.Global.{Global}
use Rattle.block_checker.specs.Explained.{Explains, answer_of}
use Rattle.block_checker.specs.Passes.{checked}
use Rattle.block_checker.specs.Refusals.{error_text as check_error_text}
use Rattle.cert_note.specs.Certificate.{CertificateView}
use Rattle.cert_note.specs.Reading.{certificate_of}
use Rattle.cert_note.specs.Refusals.{refusal_text}
use Rattle.cert_note.specs.declared.refusals.CertError.{CertError}
use Rattle.check_reasons.specs.Check.{IsListed, IsWanted, check_text}
use Rattle.check_reasons.specs.declared.check.CheckReason.{CheckReason}
use Rattle.elf_image.specs.Error.{error_text}
use Rattle.elf_image.specs.Evidence.{refusal_of}
use Rattle.elf_image.specs.Faults.{fault_of}
use Rattle.elf_image.specs.File.{image_of}
use Rattle.elf_image.specs.Image.{ImageView}
use Rattle.elf_image.specs.declared.error.ElfError.{ElfError}
use Rattle.elf_image.specs.declared.evidence.ElfRefusal.{ElfRefusal}
use Rattle.explanations.specs.Certificate.{IsReason, certificate_text}
use Rattle.explanations.specs.Image.{image_text}
use Rattle.explanations.specs.Refusal.{told}
use Rattle.explanations.specs.declared.certificate.CertificateReason.{CertificateReason}
use Rattle.vreg_groups.specs.declared.vector_length.Vlen.{Vlen}
use Rattle.rvvbox_c.specs.Accept.{vlen_at}

-- of a file that is no image
abbrev pub text_of_fault : ElfRefusal → List ℕ
text_of_fault refusal = told (error_text refusal.error) (image_text refusal.evidence)

-- of a note that spells no certificate
abbrev pub IsTextOfReading : List ℕ → CertError → List ℕ → Type 0
IsTextOfReading note error text =
    (reason : CertificateReason) × IsReason note error reason
    × (text ≡ told (refusal_text error) (certificate_text reason))

-- Why an image is refused with a certificate: where the check stops, and what was known and wanted
-- there.
pub record IsTextOfStop (image : ImageView) (certificate : CertificateView) (vlen : Vlen)
    (text : List ℕ) : Type 0 where
  pub reason : CheckReason Global
  pub refused : answer_of (Some reason.explanation) ≡ checked image certificate vlen
  pub stop : Explains image certificate reason.explanation
  pub listing : IsListed reason.explanation.stop reason.listing
  pub wanted : IsWanted image certificate vlen reason.explanation reason.wanted
  pub is_told : text ≡ told (check_error_text reason.explanation.error) (check_text reason)

-- of an image with its certificate; there is no text where they pass the check
abbrev pub IsTextOfCheck : ImageView → CertificateView → Vlen → List ℕ → Type 0
IsTextOfCheck image certificate vlen text =
    ((checked image certificate vlen ≡ Ok tt) × (text ≡ []))
    ⊎ IsTextOfStop image certificate vlen text

abbrev pub IsTextOfRead :
    Vlen → ImageView → List ℕ → List ℕ → Result CertificateView CertError → Type 0
IsTextOfRead vlen image note text (Ok certificate) = IsTextOfCheck image certificate vlen text
IsTextOfRead vlen image note text (Err error) = IsTextOfReading note error text

abbrev pub IsTextOfNote : Vlen → ImageView → List ℕ → Option (List ℕ) → Type 0
IsTextOfNote vlen image text None = text ≡ codes "  wanted: a note with a certificate\n"
IsTextOfNote vlen image text (Some note) =
    IsTextOfRead vlen image note text (certificate_of note)

-- of an image, with the certificate in its note
abbrev pub IsTextOfImage : Vlen → ImageView → List ℕ → Type 0
IsTextOfImage vlen image text = IsTextOfNote vlen image text image.certificate

abbrev pub IsTextIf : Vlen → List ℕ → List ℕ → Option ElfError → Type 0
IsTextIf vlen file text (Some fault) = text ≡ text_of_fault (refusal_of file fault)
IsTextIf vlen file text None = IsTextOfImage vlen (image_of file) text

-- of a file, for vector registers of this length
abbrev pub IsTextFor : Vlen → List ℕ → List ℕ → Type 0
IsTextFor vlen file text = IsTextIf vlen file text (fault_of file)

-- bytes with others over their start, as many of those as there is room for
abbrev pub put_over : List ℕ → List ℕ → List ℕ
put_over bytes old =
    take (min (length bytes) (length old)) bytes ++ drop (min (length bytes) (length old)) old

-- Such a text stands at the start of the host's, as much of it as there is room for. All behind it
-- stays, and `needed` is the text's whole length.
pub record HasExplained (bits : ℕ) (file old new : List ℕ) (needed : ℕ) : Type 0 where
  pub vlen : Vlen
  pub length_is : vlen_at bits ≡ Some vlen
  pub text : List ℕ
  pub told : IsTextFor vlen file text
  pub many : needed ≡ length text
  pub put : new ≡ put_over text old
