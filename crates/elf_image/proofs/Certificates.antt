-- The notes and the certificates of a note segment, one after the other.
use Rattle.std.proofs.Common.{◌≡◌, ℕ, zero, suc, ◌+◌, ◌<◌, ◌≤◌, true, false, cond, leb, ltb, subst, length-append, List, [], ◌∷◌, ◌++◌, length, take, get_or, Option, Some, None, refl, ap, ◌∙◌, arith}
use Rattle.std.proofs.lemmas.Bool.{and_parts, and_left, leb-true, lt-leb}
use Rattle.std.proofs.lemmas.List.{length-drop}
use denote.Ref.{Bor}
use Rattle.std.specs.Prelude.{option_copied, slice_get}
use Rattle.std.specs.List.{flat_map}
use Rattle.std.proofs.lemmas.List.Folds.{length-flat_map-take}
use Rattle.elf_image.specs.declared.header.ProgramHeader.{ProgramHeader}
use Rattle.elf_image.specs.File.{certificates_at, file_part, is_note}
use Rattle.elf_image.specs.declared.note.TheConstants.{NOTE_HEADER_SIZE}
use Rattle.elf_image.specs.Notes.{listed, n_namesz, n_descsz, note_size, padded, has_note, note_of, after_note, notes_within, notes_of, is_certificate, certificates_in}

-- less is left after a note
shorter : (bytes : List ℕ) → has_note bytes ≡ true → length (after_note bytes) < length bytes
unfolding has_note after_note
shorter bytes h =
    let p = and_parts (leb NOTE_HEADER_SIZE (length bytes)) (leb (note_size bytes) (length bytes)) h in
    let some : NOTE_HEADER_SIZE ≤ length bytes = leb-true _ _ p.0 in
    omega (arith, length-drop (NOTE_HEADER_SIZE + padded (n_namesz bytes) + padded (n_descsz bytes)) bytes)

no_note : (bytes : List ℕ) → length bytes ≤ 0 → has_note bytes ≡ false
unfolding has_note
no_note bytes h = and_left (leb NOTE_HEADER_SIZE (length bytes)) (leb (note_size bytes) (length bytes)) (lt-leb _ _ (omega arith))

-- a larger limit gives no more notes, once it is as large as the bytes are many
enough : (n m : ℕ) (bytes : List ℕ) → length bytes ≤ n → length bytes ≤ m → notes_within n bytes ≡ notes_within m bytes
unfolding notes_within
enough zero zero bytes p q = refl
enough zero (suc m) bytes p q = rw (no_note bytes p) refl
enough (suc n) zero bytes p q = rw (no_note bytes q) refl
enough (suc n) (suc m) bytes p q =
    let next = after_note bytes in
    elim (has_note bytes) as (λ b. has_note bytes ≡ b → cond b (note_of bytes ∷ notes_within n next) [] ≡ cond b (note_of bytes ∷ notes_within m next) []) [
      | true ↦ λ h. let less = shorter bytes h in ap (λ ns. note_of bytes ∷ ns) (enough n m next (omega arith) (omega arith))
      | false ↦ λ h. refl
    ] refl

-- the first note, and those in the bytes after it
at_note : (bytes : List ℕ) → has_note bytes ≡ true → notes_of bytes ≡ note_of bytes ∷ notes_of (after_note bytes)
unfolding notes_within
at_note bytes h =
    let less = shorter bytes h in
    let next = after_note bytes in
    let more : notes_within (length bytes) bytes ≡ notes_within (suc (length bytes)) bytes = enough (length bytes) (suc (length bytes)) bytes (omega arith) (omega arith) in
    let first : notes_within (suc (length bytes)) bytes ≡ note_of bytes ∷ notes_within (length bytes) next = rw h refl in
    more ∙ first ∙ ap (λ ns. note_of bytes ∷ ns) (enough (length bytes) (length next) next (omega arith) (omega arith))

at_end : (bytes : List ℕ) → has_note bytes ≡ false → notes_of bytes ≡ []
unfolding notes_within
at_end bytes h =
    let more : notes_within (length bytes) bytes ≡ notes_within (suc (length bytes)) bytes = enough (length bytes) (suc (length bytes)) bytes (omega arith) (omega arith) in
    more ∙ rw h refl

-- a certificate at the front is the first
pub certificate_first : (bytes : List ℕ) → has_note bytes ≡ true → is_certificate (note_of bytes) ≡ true → certificates_in bytes ≡ (note_of bytes).descriptor ∷ certificates_in (after_note bytes)
unfolding certificates_in
certificate_first bytes h c = rw (at_note bytes h, c) refl

-- another note is skipped
pub certificate_later : (bytes : List ℕ) → has_note bytes ≡ true → is_certificate (note_of bytes) ≡ false → certificates_in bytes ≡ certificates_in (after_note bytes)
unfolding certificates_in
certificate_later bytes h c = rw (at_note bytes h, c) refl

-- without a note there is none
pub certificate_none : (bytes : List ℕ) → has_note bytes ≡ false → certificates_in bytes ≡ []
unfolding certificates_in
certificate_none bytes h = rw (at_end bytes h) refl

-- of at most one the first is it, and there are not two
pub at_most_one : (r : Option (Bor (List ℕ))) (cs : List (List ℕ)) → listed r ≡ cs → (option_copied r ≡ slice_get cs 0) × (ltb 1 (length cs) ≡ false)
at_most_one r cs e =
    subst (λ cs. (option_copied r ≡ slice_get cs 0) × (ltb 1 (length cs) ≡ false)) e (one r)
  where
    one : (r : Option (Bor (List ℕ))) → (option_copied r ≡ slice_get (listed r) 0) × (ltb 1 (length (listed r)) ≡ false)
    one None = (refl, refl)
    one (Some x) = (refl, refl)

-- two that are found by some place are two of all
pub several_of : (file : List ℕ) (hs : List ProgramHeader) (i : ℕ) (d : ProgramHeader) (found : List (List ℕ)) (part : List ℕ)
    → i < length hs → found ≡ flat_map (certificates_at file) (take i hs) → true ≡ is_note (get_or hs i d) → part ≡ file_part file (get_or hs i d)
    → 1 < length (found ++ certificates_in part) → 1 < length (flat_map (certificates_at file) hs)
several_of file hs i d found part lt so_far note same more =
    let here : certificates_at file (get_or hs i d) ≡ certificates_in part = rw (← note, same) refl in
    let size : length (certificates_at file (get_or hs i d)) ≡ length (certificates_in part) = ap length here in
    let front : length found ≡ length (flat_map (certificates_at file) (take i hs)) = ap length so_far in
    omega (arith, length-flat_map-take (certificates_at file) hs i d lt, length-append found (certificates_in part))
