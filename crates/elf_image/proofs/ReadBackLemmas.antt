-- A file with a certificate has no fault, and is read as the image of the file with the certificate.
use Rattle.std.proofs.Common.{◌≡◌, ℕ, ◌+◌, ◌*◌, ◌<◌, ◌≤◌, inl, inr, Bool, true, false, cond, ◌&&◌, ◌||◌, ltb, eqb, None, refl, ap, ◌∙◌, arith, List, [], ◌∷◌, ◌++◌, length, take, drop, map, filter}
use Rattle.std.specs.List.{AllByRecursion, list_any, flat_map, slice_index, sum_by}
use Rattle.std.proofs.lemmas.Bool.{and_parts, le-ltb, ltb-false}
use Rattle.std.proofs.lemmas.Bool.Decides.{nat_tests}
use Rattle.std.proofs.lemmas.Grind.{flat_map-append}
use Rattle.std.proofs.lemmas.List.{nil_from_length}
use Rattle.std.proofs.lemmas.List.Elements.{recursion_from_All}
use Rattle.std.proofs.lemmas.List.Folds.{list_any-append}
use Rattle.elf_image.specs.declared.header.ProgramHeader.{ProgramHeader}
use Rattle.elf_image.specs.declared.layout.TheConstants.{MAX_FILE_SIZE, MAX_SEGMENTS, MAX_MEMORY_SIZE}
use Rattle.elf_image.specs.Words.{half_at, word_at}
use Rattle.elf_image.specs.Notes.{padded, certificates_in}
use Rattle.elf_image.specs.Image.{SegmentView}
use Rattle.elf_image.specs.File.{HasTable, e_entry, e_phnum, program_headers, segment_headers, is_load, is_note, is_segment, file_part, segment_of, certificates_at, certificates_of, image_of}
use Rattle.elf_image.specs.Faults.{is_dynamic, is_out_of_file, has_bad_magic, has_bad_class, has_bad_type, has_bad_machine, has_bad_flags, has_bad_header_table, is_not_static, has_out_of_file, has_out_of_place, has_overlap, has_write_and_execute, is_too_large, has_two_certificates, has_certificate, fault_of}
use Rattle.elf_image.specs.Attached.{note_with, note_offset, attached_of, patched_of}
use Rattle.elf_image.specs.ReadBack.{is_changed, NotesAreKept, image_with, AttachedIsRead}
use Rattle.elf_image.proofs.AttachedSize.{note_long}
use Rattle.elf_image.proofs.HasImage.{neither, inside_file, either_left, either_right}
use Rattle.elf_image.proofs.PartLemmas.{same_byte, same_half, same_word}
use Rattle.elf_image.proofs.NoteLemmas.{read_back}
use Rattle.elf_image.proofs.PatchedLemmas.{are_beside, kept}
use Rattle.elf_image.proofs.FaultLemmas.{HasHeader, HasPlaces}
use Rattle.elf_image.proofs.SoundLemmas.{IsSound, IsAttached, IsTable, no_fault, is_attached, is_table, room_for}
use Rattle.elf_image.proofs.AttachedLemmas.{note_header_of, part_of_file, part_kept, offset_is, count_is, headers_are, segments_are, note_is, end}

-- a larger file has no more bytes outside of it
still_in : (a b x y : Bool) → (x ≡ false → y ≡ false) → (a && x || b) ≡ false → (a && y || b) ≡ false
still_in true true x y i e = absurd (true_or x e)
  where
    true_or : (x : Bool) → (true && x || true) ≡ false → ⊥
    true_or true e = absurd cc
    true_or false e = absurd cc
still_in true false true y i e = absurd cc
still_in true false false y i e = rw (i refl) refl
still_in false b x y i e = e

in_larger : (n m : ℕ) (h : ProgramHeader) → n ≤ m → is_out_of_file n h ≡ false → is_out_of_file m h ≡ false
in_larger n m h l e =
    still_in ((is_load h || is_note h) && ltb 0 h.p_filesz) (is_load h && ltb h.p_memsz h.p_filesz) (ltb n (h.p_offset + h.p_filesz)) (ltb m (h.p_offset + h.p_filesz))
    (λ inside. let fits = ltb-false _ _ inside in le-ltb _ _ (omega arith)) e

all_in_larger : (n m : ℕ) (hs : List ProgramHeader) → n ≤ m → list_any (is_out_of_file n) hs ≡ false → list_any (is_out_of_file m) hs ≡ false
all_in_larger n m [] l e = refl
all_in_larger n m (h ∷ hs) l e =
    let both = neither (is_out_of_file n h) (list_any (is_out_of_file n) hs) e in
    rw (in_larger n m h l both.0, all_in_larger n m hs l both.1) refl

-- segments, each the same in two files
segments_same : (f g : ProgramHeader → SegmentView) (size : ℕ) (hs : List ProgramHeader) → ((h : ProgramHeader) → is_segment h ≡ true → is_out_of_file size h ≡ false → f h ≡ g h)
    → list_any (is_out_of_file size) hs ≡ false → map f (filter is_segment hs) ≡ map g (filter is_segment hs)
segments_same f g size [] same e = refl
segments_same f g size (h ∷ hs) same e =
    let both = neither (is_out_of_file size h) (list_any (is_out_of_file size) hs) e in
    let rest = segments_same f g size hs same both.1 in
    elim (is_segment h) as (λ b. is_segment h ≡ b → map f (cond b (h ∷ filter is_segment hs) (filter is_segment hs)) ≡ map g (cond b (h ∷ filter is_segment hs) (filter is_segment hs))) [
      | true ↦ λ s. rw (same h s both.0, rest) refl
      | false ↦ λ s. rest
    ] refl

certificates_same : (f g : ProgramHeader → List (List ℕ)) (hs : List ProgramHeader) → AllByRecursion (λ h. f h ≡ g h) hs → flat_map f hs ≡ flat_map g hs
certificates_same f g [] e = refl
certificates_same f g (h ∷ hs) e = rw (e.0, certificates_same f g hs e.1) refl

not_past : (x : Bool) → (x && false || false) ≡ false
not_past true = refl
not_past false = refl

not_zero : (n : ℕ) → eqb (n + 1) 0 ≡ false
not_zero n = grind (arith, nat_tests)

module _ (file cert : List ℕ) (known : IsAttached file cert) (notes : NotesAreKept file) where
  abbrev all : List ℕ
  all = attached_of file cert

  old : IsTable file
  old = is_table file known.sound.header

  room : (e_phnum file < 64) × (length (attached_of file cert) ≤ 4194304)
  room = room_for file cert known.room

  table : HasTable file
  table = old.has_table

  abbrev place : ℕ
  place = note_offset (length file) (e_phnum file)

  abbrev added : ProgramHeader
  added = note_header_of place (length (note_with cert))

  headers : program_headers all ≡ program_headers file ++ added ∷ []
  headers = headers_are file cert table room.0 room.1

  segments : segment_headers all ≡ segment_headers file
  segments = segments_are file cert table room.0 room.1

  ends : length all ≡ place + length (note_with cert)
  ends = end file cert table room.0 room.1

  longer : length file ≤ length all
  longer = omega (arith, ends)

  -- the header's fields, but for the two
  front_same : (o n : ℕ) → o + n ≤ 28 → take n (drop o all) ≡ take n (drop o file)
  front_same o n l = part_kept file cert table room.0 room.1 o n (omega arith) (inr (inl l)) (inr (inl (omega arith)))

  fields_same : (o n : ℕ) → 32 ≤ o → o + n ≤ 44 → take n (drop o all) ≡ take n (drop o file)
  fields_same o n l m = part_kept file cert table room.0 room.1 o n (omega arith) (inr (inr l)) (inr (inl m))

  byte_same : (o : ℕ) → o + 1 ≤ 28 → slice_index all o ≡ slice_index file o
  byte_same o l = same_byte o all file (front_same o 1 l)

  half_same : (o : ℕ) → o + 2 ≤ 28 → half_at o all ≡ half_at o file
  half_same o l = same_half o o all file (front_same o 2 l)

  word_same : (o : ℕ) → o + 4 ≤ 28 → word_at o all ≡ word_at o file
  word_same o l = same_word o o all file (front_same o 4 l)

  table_in_place : has_bad_header_table all ≡ false
  unfolding has_bad_header_table
  table_in_place =
      let few = room.0 in
      let size = same_half 40 40 all file (fields_same 40 2 (omega arith) (omega arith)) ∙ old.header_size in
      let entry = same_half 42 42 all file (fields_same 42 2 (omega arith) (omega arith)) ∙ old.entry_size in
      let not_too_many : ltb 64 (e_phnum file + 1) ≡ false = le-ltb _ _ (omega (arith, few)) in
      let inside : ltb (length all) (padded (length file) + 32 * (e_phnum file + 1)) ≡ false = le-ltb _ _ (omega (arith, ends)) in
      rw (size, entry, count_is file cert table room.0 room.1, offset_is file cert table room.0 room.1, not_zero (e_phnum file), not_too_many, inside) refl

  has_header : HasHeader all
  unfolding has_bad_magic has_bad_class has_bad_type has_bad_machine has_bad_flags
  has_header =
      let h = known.sound.header in
      let long : 52 ≤ length file = table.header in
      record {
        short = le-ltb _ _ (omega (arith, longer, long));
        magic = rw (front_same 0 4 (omega arith)) h.magic;
        class = rw (byte_same 4 (omega arith), byte_same 5 (omega arith), byte_same 6 (omega arith)) h.class;
        executable = rw (half_same 16 (omega arith), word_same 20 (omega arith)) h.executable;
        machine = rw (half_same 18 (omega arith)) h.machine;
        flags = rw (same_word 36 36 all file (fields_same 36 4 (omega arith) (omega arith))) h.flags;
        table = table_in_place;
      }

  added_inside : is_out_of_file (length all) added ≡ false
  unfolding note_header_of
  added_inside =
      let inside : ltb (length all) (place + length (note_with cert)) ≡ false = le-ltb _ _ (omega (arith, ends)) in
      rw inside (not_past (ltb 0 (length (note_with cert))))

  has_places : HasPlaces all
  unfolding is_not_static has_out_of_file note_header_of
  has_places =
      let p = known.sound.places in
      let static : list_any is_dynamic (program_headers all) ≡ false =
      ap (list_any is_dynamic) headers
      ∙ list_any-append is_dynamic (program_headers file) (added ∷ [])
      ∙ rw p.static refl in
      let inside : list_any (is_out_of_file (length all)) (program_headers all) ≡ false =
      ap (list_any (is_out_of_file (length all))) headers
      ∙ list_any-append (is_out_of_file (length all)) (program_headers file) (added ∷ [])
      ∙ rw (all_in_larger (length file) (length all) (program_headers file) longer p.inside, added_inside) refl in
      record {
        static = static;
        inside = inside;
        place = ap has_out_of_place segments ∙ p.place;
        apart = ap has_overlap segments ∙ p.apart;
        exclusive = ap has_write_and_execute segments ∙ p.exclusive;
      }

  entry_is : e_entry all ≡ e_entry file
  entry_is = word_same 24 (omega arith)

  is_sound : IsSound all
  unfolding is_too_large
  is_sound =
      let size = room.1 in
      let hs = segment_headers file in
      let memory = neither (ltb MAX_FILE_SIZE (length file) || ltb MAX_SEGMENTS (length hs)) (ltb MAX_MEMORY_SIZE (sum_by (λ h. h.p_memsz) hs)) known.sound.large in
      let count = neither (ltb MAX_FILE_SIZE (length file)) (ltb MAX_SEGMENTS (length hs)) memory.0 in
      let in_limit : ltb MAX_FILE_SIZE (length all) ≡ false = le-ltb _ _ size in
      record {
        header = has_header;
        places = has_places;
        large = rw (segments, in_limit, count.1, memory.1) refl;
        code = rw (entry_is, segments) known.sound.code;
      }

  -- the note segments of the file still have no certificate
  note_same : (h : ProgramHeader) → (is_note h ≡ true → is_changed h ≡ false) → is_out_of_file (length file) h ≡ false → certificates_at all h ≡ certificates_at file h
  note_same h keeps inside =
      elim (is_note h) as (λ b. is_note h ≡ b → cond b (certificates_in (file_part all h)) [] ≡ cond b (certificates_in (file_part file h)) []) [
        | true ↦ λ n.
            let beside = are_beside h (keeps n) in
            ap certificates_in
            (part_of_file file cert table room.0 room.1 h.p_offset h.p_filesz (inside_file file h inside (either_right (is_load h) (is_note h) n))
            ∙ kept (padded (length file)) (e_phnum file + 1) file table.header h.p_offset h.p_filesz beside.0 beside.1)
        | false ↦ λ n. refl
      ] refl

  notes_same : (hs : List ProgramHeader) → AllByRecursion (λ h. is_note h ≡ true → is_changed h ≡ false) hs → list_any (is_out_of_file (length file)) hs ≡ false
      → AllByRecursion (λ h. certificates_at all h ≡ certificates_at file h) hs
  notes_same [] keeps inside = tt
  notes_same (h ∷ hs) keeps inside =
      let both = neither (is_out_of_file (length file) h) (list_any (is_out_of_file (length file)) hs) inside in
      (note_same h keeps.0 both.0, notes_same hs keeps.1 both.1)

  old_certificates : flat_map (certificates_at all) (program_headers file) ≡ []
  unfolding certificates_of has_certificate has_out_of_file
  old_certificates =
      let keeps = recursion_from_All (λ h. is_note h ≡ true → is_changed h ≡ false) (program_headers file) notes in
      let none : length (certificates_of file) ≤ 0 = ltb-false _ _ known.free in
      certificates_same (certificates_at all) (certificates_at file) (program_headers file) (notes_same (program_headers file) keeps known.sound.places.inside)
      ∙ nil_from_length (certificates_of file) (omega (arith, none))

  new_certificate : certificates_at all added ≡ cert ∷ []
  unfolding note_header_of
  new_certificate =
      let size = room.1 in
      ap certificates_in (note_is file cert table room.0 room.1) ∙ read_back cert (omega (arith, size, ends, note_long cert))

  certificates_are : certificates_of all ≡ cert ∷ []
  unfolding certificates_of
  certificates_are =
      ap (flat_map (certificates_at all)) headers
      ∙ flat_map-append (certificates_at all) (program_headers file) (added ∷ [])
      ∙ rw (old_certificates, new_certificate) refl

  segment_read : (h : ProgramHeader) → is_segment h ≡ true → is_out_of_file (length file) h ≡ false → segment_of all h ≡ segment_of (patched_of file) h
  unfolding segment_of
  segment_read h s inside =
      let kind = and_parts (is_load h) (ltb 0 h.p_memsz) s in
      rw (part_of_file file cert table room.0 room.1 h.p_offset h.p_filesz (inside_file file h inside (either_left (is_load h) (is_note h) kind.0))) refl

  segments_read : map (segment_of all) (segment_headers all) ≡ map (segment_of (patched_of file)) (segment_headers file)
  unfolding has_out_of_file
  segments_read =
      ap (map (segment_of all)) segments
      ∙ segments_same (segment_of all) (segment_of (patched_of file)) (length file) (program_headers file) segment_read known.sound.places.inside

  reads : (fault_of all ≡ None) × (image_of all ≡ image_with file cert)
  unfolding has_two_certificates image_of image_with
  reads = (no_fault all is_sound (rw certificates_are refl), rw (entry_is, segments_read, certificates_are) refl)

pub attached-is-read : AttachedIsRead
attached-is-read file cert none notes = reads file cert (is_attached file cert none) notes
