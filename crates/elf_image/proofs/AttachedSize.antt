-- How many bytes a file with a certificate has.
use Rattle.std.proofs.Common.{◌≡◌, ℕ, suc, Option, Some, None, ◌+◌, ◌-◌, ◌*◌, ◌<◌, ◌≤◌, Bool, true, false, ◌||◌, ltb, leb, refl, sym, ◌∙◌, arith, List, [], ◌∷◌, ◌++◌, length, length-append, take, drop}
use denote.Ref.{Bor}
use Rattle.std.specs.Prelude.{slice_get, option_copied, is_some}
use Rattle.elf_image.specs.declared.attached.TheConstants.{ZEROS}
use Rattle.std.proofs.lemmas.Bool.{le-leb, lt-ltb, ltb-false, lt-leb}
use Rattle.std.proofs.lemmas.List.{length-take, length-drop}
use Rattle.elf_image.specs.declared.note.TheConstants.{NAME}
use Rattle.elf_image.specs.declared.layout.TheConstants.{MAX_FILE_SIZE}
use Rattle.elf_image.specs.declared.header.TheConstants.{MAX_PROGRAM_HEADERS}
use Rattle.elf_image.specs.Words.{half, word}
use Rattle.elf_image.specs.Notes.{padded}
use Rattle.elf_image.specs.File.{HasTable, e_phoff, e_phnum}
use Rattle.elf_image.specs.Attached.{padding, note_with, note_header, note_offset, part, rest_from, patched, patched_of, headers_of, attached_of, outgrows, attached_size, HasRoom}

pub padding_long : (n : ℕ) → length (padding n) ≡ padded n - n
unfolding padding
padding_long n = length-take (padded n - n) ZEROS ∙ omega arith

four_long : (a b c d : List ℕ) → length (a ++ b ++ c ++ d) ≡ length a + (length b + (length c + length d))
four_long a b c d = simp length-append (omega arith)

pub note_long : (cert : List ℕ) → length (note_with cert) ≡ 20 + padded (length cert)
unfolding note_with word
note_long cert =
    let head = word 7 ++ word (length cert) ++ word 1 ++ NAME in
    let head_long : length head ≡ 19 = refl in
    four_long head (padding 7) cert (padding (length cert))
    ∙ omega (arith, padding_long 7, padding_long (length cert))

pub header_long : (offset size : ℕ) → length (note_header offset size) ≡ 32
unfolding note_header word
header_long offset size = refl

five_long : (a b c d e : List ℕ) → length (a ++ b ++ c ++ d ++ e) ≡ length a + (length b + (length c + (length d + length e)))
five_long a b c d e = simp length-append (omega arith)

pub word_long : (n : ℕ) → length (word n) ≡ 4
unfolding word
word_long n = refl

pub half_long : (n : ℕ) → length (half n) ≡ 2
unfolding half
half_long n = refl

pub patched_long : (offset count : ℕ) (file : List ℕ) → 52 ≤ length file → length (patched offset count file) ≡ length file
unfolding patched part rest_from
patched_long offset count file l =
    five_long (take 28 file) (word offset) (take 12 (drop 32 file)) (half count) (drop 46 file)
    ∙ rw (word_long offset, half_long count) (omega (arith, length-take 28 file, length-take 12 (drop 32 file), length-drop 32 file, length-drop 46 file))

pub headers_long : (file : List ℕ) → HasTable file → length (headers_of file) ≡ 32 * e_phnum file
headers_long file t = omega (arith, length-take (32 * e_phnum file) (drop (e_phoff file) file), length-drop (e_phoff file) file)

-- the size is the one in the answer
pub attached_long : (file cert : List ℕ) → HasTable file → length (attached_of file cert) ≡ attached_size (length file) (e_phnum file) (length cert)
unfolding attached_of
attached_long file cert t =
    five_long (patched_of file) (padding (length file)) (headers_of file) (note_header (note_offset (length file) (e_phnum file)) (length (note_with cert))) (note_with cert)
    ∙ omega (
      arith,
      patched_long (padded (length file)) (e_phnum file + 1) file t.header,
      padding_long (length file),
      headers_long file t,
      header_long (note_offset (length file) (e_phnum file)) (length (note_with cert)),
      note_long cert,
    )

or_true : (x : Bool) → (x || true) ≡ true
or_true true = refl
or_true false = refl

-- what the code tests, one after the other
pub too_many_headers : (file cert : List ℕ) → 64 ≤ e_phnum file → outgrows file cert ≡ true
unfolding outgrows
too_many_headers file cert l = rw (le-leb MAX_PROGRAM_HEADERS (e_phnum file) l) refl

pub too_large : (file cert : List ℕ) → HasTable file → MAX_FILE_SIZE < attached_size (length file) (e_phnum file) (length cert) → outgrows file cert ≡ true
unfolding outgrows
too_large file cert t l = rw (lt-ltb MAX_FILE_SIZE (length (attached_of file cert)) (omega (arith, attached_long file cert t))) (or_true (leb MAX_PROGRAM_HEADERS (e_phnum file)))

pub fits : (file cert : List ℕ) → HasTable file → e_phnum file < 64 → outgrows file cert ≡ ltb MAX_FILE_SIZE (attached_size (length file) (e_phnum file) (length cert))
unfolding outgrows
fits file cert t l = rw (attached_long file cert t, lt-leb MAX_PROGRAM_HEADERS (e_phnum file) l) refl

pub has_room : (file cert : List ℕ) → HasTable file → ltb MAX_FILE_SIZE (attached_size (length file) (e_phnum file) (length cert)) ≡ false → HasRoom file cert
has_room file cert t e = record { table = t; size = ltb-false _ _ e }

-- there is a certificate where there is a first one
pub is_there : (r : Option (Bor (List ℕ))) (cs : List (List ℕ)) → option_copied r ≡ slice_get cs 0 → is_some r ≡ ltb 0 (length cs)
is_there None [] e = refl
is_there None (c ∷ cs) e = absurd cc
is_there (Some r) [] e = absurd cc
is_there (Some r) (c ∷ cs) e = sym (lt-ltb 0 (suc (length cs)) (omega arith))
