-- The note of a certificate is read back.
use Rattle.std.proofs.Common.{◌≡◌, ℕ, zero, suc, ◌+◌, ◌-◌, ◌/◌, ◌%◌, ◌<◌, ◌≤◌, Bool, true, false, refl, ap, ◌∙◌, arith, List, [], ◌∷◌, ◌++◌, length, length-append, take, drop}
use Rattle.std.specs.Prelude.{◌==◌, if◌then◌else◌}
use Rattle.std.proofs.lemmas.Bool.{le-leb}
use Rattle.std.proofs.lemmas.List.{drop_all}
use Rattle.std.proofs.Math.Seq.{take-append_seam}
use Rattle.elf_image.specs.Words.{word, word_at}
use Rattle.elf_image.specs.Notes.{NoteView, n_namesz, n_descsz, n_type, padded, note_size, has_note, note_of, after_note, notes_within, certificates_in}
use Rattle.elf_image.specs.Attached.{padding, note_with}
use Rattle.elf_image.proofs.AttachedSize.{padding_long}
use Rattle.elf_image.proofs.PartLemmas.{word_there}

no_notes : (most : ℕ) → notes_within most [] ≡ []
unfolding notes_within has_note
no_notes zero = refl
no_notes (suc most) = refl

module _ (cert : List ℕ) (fits : length cert < 4294967296) where
  zeros : List ℕ
  zeros = padding (length cert)

  abbrev rest : List ℕ
  rest = cert ++ zeros

  zeros_long : length zeros ≡ padded (length cert) - length cert
  unfolding zeros
  zeros_long = padding_long (length cert)

  rest_long : length rest ≡ padded (length cert)
  rest_long = omega (arith, length-append cert zeros, zeros_long)

  note : List ℕ
  note = 7 ∷ 0 ∷ 0 ∷ 0 ∷ length cert % 256 ∷ length cert / 256 % 256 ∷ length cert / 65536 % 256 ∷ length cert / 16777216 % 256 ∷ 1 ∷ 0 ∷ 0 ∷ 0
      ∷ 82 ∷ 86 ∷ 86 ∷ 66 ∷ 79 ∷ 88 ∷ 0 ∷ 0 ∷ rest

  note_is : note_with cert ≡ note
  unfolding note_with note zeros word padding
  note_is = refl

  name_size : n_namesz note ≡ 7
  unfolding word_at note
  name_size = refl

  descriptor_size : n_descsz note ≡ length cert
  unfolding note word
  descriptor_size = word_there 4 (length cert) note (drop 8 note) fits refl

  kind_is : n_type note ≡ 1
  unfolding word_at note
  kind_is = refl

  long : length note ≡ 20 + length rest
  unfolding note
  long = omega arith

  long_enough : note_size note ≤ length note
  long_enough = rw (name_size, descriptor_size, long, rest_long) (by_empty (length cert == 0))
    where
      by_empty : (t : Bool) → (if t then 12 + 7 else 12 + padded 7 + length cert) ≤ 20 + padded (length cert)
      by_empty true = omega arith
      by_empty false = omega arith

  has : has_note note ≡ true
  unfolding has_note
  has = rw (le-leb 12 (length note) (omega (arith, long)), le-leb (note_size note) (length note) long_enough) refl

  read : note_of note ≡ record { name = 82 ∷ 86 ∷ 86 ∷ 66 ∷ 79 ∷ 88 ∷ 0 ∷ []; descriptor = cert; kind = 1 }
  unfolding note_of note
  read = rw (name_size, descriptor_size, kind_is) parts
    where
      of : List ℕ → List ℕ → NoteView
      of name descriptor = record { name = name; descriptor = descriptor; kind = 1 }

      parts : of (take 7 (drop 12 note)) (take (length cert) (drop (12 + padded 7) note)) ≡ of (82 ∷ 86 ∷ 86 ∷ 66 ∷ 79 ∷ 88 ∷ 0 ∷ []) cert
      parts = ap (λ (d : List ℕ). of (82 ∷ 86 ∷ 86 ∷ 66 ∷ 79 ∷ 88 ∷ 0 ∷ []) d) (take-append_seam cert zeros)

  behind : after_note note ≡ []
  unfolding after_note
  behind = rw (name_size, descriptor_size) (drop_all (12 + padded 7 + padded (length cert)) note (omega (arith, long, rest_long)))

  abbrev one : NoteView
  one = record { name = 82 ∷ 86 ∷ 86 ∷ 66 ∷ 79 ∷ 88 ∷ 0 ∷ []; descriptor = cert; kind = 1 }

  notes_are : (most : ℕ) → notes_within (suc most) note ≡ one ∷ []
  unfolding notes_within
  notes_are most = rw (has, read, behind) (ap (λ (ns : List NoteView). one ∷ ns) (no_notes most))

  found : certificates_in note ≡ cert ∷ []
  unfolding certificates_in
  found =
      let more : length note ≡ suc (19 + length rest) = omega (arith, long) in
      rw more (rw (notes_are (19 + length rest)) refl)

-- the note has one certificate, the one that it was made of
pub read_back : (cert : List ℕ) → length cert < 4294967296 → certificates_in (note_with cert) ≡ cert ∷ []
read_back cert fits = ap certificates_in (note_is cert fits) ∙ found cert fits
