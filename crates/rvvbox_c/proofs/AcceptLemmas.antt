-- How a refusal tells why there is none of what is defined.
use Rattle.std.specs.Prelude.{◌≡◌, ◌⊎◌, List, ℕ, Option, None, Some, Result, Ok, Err, IsSomeAnd, MatchResult}
use Rattle.std.proofs.Common.{refl, inl, inr}
use Rattle.cert_note.specs.Certificate.{CertificateView}
use Rattle.cert_note.specs.Reading.{IsEvidence, IsFaultPlace, IsRefusal, certificate_of, out_of_memory}
use Rattle.cert_note.specs.declared.refusals.CertError.{CertError}
use Rattle.cert_note.specs.declared.refusals.CertRefusal.{CertRefusal}
use Rattle.rvvbox_c.specs.Accept.{IsRefusalOf, Known, Unread, Why, certificate_in, unread}
use Rattle.rvvbox_c.specs.Status.{plain}
use Rattle.rvvbox_c.specs.declared.status.Refusal.{Refusal}
use Rattle.rvvbox_c.specs.declared.status.Status.TheVariants.{NoMemory}

-- It is known, or memory was refused.
pub known_or_want : {A : Type 0} → (defined : Result A Why) (refusal : Refusal)
    → (defined ≡ Err (Known refusal)) ⊎ (refusal ≡ plain NoMemory) → IsRefusalOf defined refusal
known_or_want defined refusal (inl known) = inl (Known refusal, known, refl)
known_or_want defined refusal (inr want) = inr want

-- A note's bytes are no certificate, or memory was refused.
pub unread_there : (held : Option (List ℕ)) (bytes : List ℕ) (refusal : CertRefusal)
    → held ≡ Some bytes → IsRefusal bytes refusal → IsRefusalOf (certificate_in held) (unread refusal)
unread_there held bytes refusal there is = at (certificate_of bytes) refl is
  where
    placed : (o : Option ℕ) (error : CertError) → refusal.place ≡ o → refusal.error ≡ error → certificate_in held ≡ Err (Unread bytes error)
        → IsSomeAnd o (IsFaultPlace bytes error) → IsRefusalOf (certificate_in held) (unread refusal)
    placed None error here same told place = absurd place
    placed (Some read) error here same told place = inl (Unread bytes error, told, (read, place, rw (here, same) refl))

    at : (r : Result CertificateView CertError) → certificate_of bytes ≡ r
        → MatchResult r (λ c. refusal ≡ out_of_memory) (λ e. IsEvidence bytes e refusal) → IsRefusalOf (certificate_in held) (unread refusal)
    at (Ok c) spells want = inr (rw want refl)
    at (Err error) spells evidence =
        placed refusal.place error refl evidence.error (rw (there, spells) refl) evidence.place
