-- Laws of certificates and their bytes, with no word of memory.
use Rattle.std.specs.Prelude.{ℕ, ◌≡◌, List, Ok}
use Rattle.elf_image.specs.Words.{AreBytes}
use Rattle.cert_note.specs.Certificate.{CertificateView, IsCertificate}
use Rattle.cert_note.specs.Spelling.{spelling}
use Rattle.cert_note.specs.Reading.{certificate_of}

-- bytes and the certificate that they spell
pub record Spells (bytes : List ℕ) (c : CertificateView) : Type 0 where
  pub valid : IsCertificate c
  pub spelled : bytes ≡ spelling c

-- A certificate is found in bytes exactly where they spell it.
pub record FindsWhatIsSpelled (bytes : List ℕ) (c : CertificateView) : Type 0 where
  pub spells : AreBytes bytes → certificate_of bytes ≡ Ok c → Spells bytes c
  pub found : Spells bytes c → certificate_of bytes ≡ Ok c

abbrev pub CertificatesAreSpellings : Type 0
CertificatesAreSpellings = (bytes : List ℕ) (c : CertificateView) → FindsWhatIsSpelled bytes c
