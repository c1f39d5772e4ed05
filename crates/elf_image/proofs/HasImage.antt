-- A file with no fault of the segments has an image.
use Rattle.std.proofs.Common.{◌≡◌, ℕ, ◌+◌, ◌%◌, ◌<◌, ◌≤◌, inl, inr, Bool, true, false, cond, not, ◌&&◌, ◌||◌, ltb, leb, eqb, List, [], ◌∷◌, length, drop, map, filter, None, refl, sym, ap, ◌∙◌, arith}
use Rattle.std.specs.List.{All, AllByRecursion, list_any, sum_by}
use Rattle.std.proofs.lemmas.Bool.{and_parts, and_from, and_cases, or_cases, ltb-true, ltb-false, leb-true, eqb-true, lt-ltb, not-false}
use Rattle.std.proofs.lemmas.List.{length-take, length-map}
use Rattle.std.proofs.lemmas.List.Elements.{All-from_get_or, All-from_recursion, All-take, All-drop}
use Rattle.std.proofs.lemmas.List.Sums.{sum_by-cons}
use Rattle.elf_image.specs.declared.header.ProgramHeader.{ProgramHeader}
use Rattle.elf_image.specs.declared.layout.TheConstants.{LOW_SEGMENTS, LOW_SEGMENTS_END, HIGH_SEGMENTS, HIGH_SEGMENTS_END, MAX_FILE_SIZE, MAX_SEGMENTS, MAX_MEMORY_SIZE}
use Rattle.elf_image.specs.declared.error.ElfError.TheVariants.{TooLarge, EntryNotCode}
use Rattle.elf_image.specs.Image.{SegmentView, IsSegment, IsInPlace, IsApart, AreApart, IsImage, holds_code}
use Rattle.elf_image.specs.File.{e_entry, is_load, is_note, is_segment, is_writable, is_executable, program_headers, segment_headers, segment_of, image_of, IsInside, IsLoadable, HasImage}
use Rattle.elf_image.specs.Faults.{is_out_of_file, has_out_of_file, is_between, is_out_of_place, has_out_of_place, overlap, has_overlap, is_write_and_execute, has_write_and_execute, is_too_large, has_word, is_not_code, first_of, place_faults, segment_faults}
use Rattle.elf_image.specs.Words.{AreBytes}
use Rattle.elf_image.proofs.FaultLemmas.{not_told, has_places}

pub neither : (x y : Bool) → (x || y) ≡ false → (x ≡ false) × (y ≡ false)
neither true y e = absurd cc
neither false y e = (refl, e)

not_both : (x y : Bool) → (x && y) ≡ false → x ≡ true → y ≡ false
not_both true y e t = e
not_both false y e t = absurd cc

-- what "outside the file" says where it is not so
pub inside_file : (file : List ℕ) (h : ProgramHeader) → is_out_of_file (length file) h ≡ false → (is_load h || is_note h) ≡ true → IsInside file h
inside_file file h e kind some =
    let past = ltb (length file) (h.p_offset + h.p_filesz) in
    let out = neither ((is_load h || is_note h) && ltb 0 h.p_filesz && past) (is_load h && ltb h.p_memsz h.p_filesz) e in
    let both : ((is_load h || is_note h) && ltb 0 h.p_filesz) ≡ true = and_from (is_load h || is_note h) (ltb 0 h.p_filesz) kind (lt-ltb _ _ some) in
    ltb-false _ _ (not_both ((is_load h || is_note h) && ltb 0 h.p_filesz) past out.0 both)

pub either_left : (x y : Bool) → x ≡ true → (x || y) ≡ true
either_left true y e = refl
either_left false y e = absurd cc

pub either_right : (x y : Bool) → y ≡ true → (x || y) ≡ true
either_right true y e = refl
either_right false y e = e

is_in_place : (h : ProgramHeader) → is_out_of_place h ≡ false → IsInPlace h.p_vaddr h.p_memsz
is_in_place h e =
    elim (or_cases (is_between LOW_SEGMENTS LOW_SEGMENTS_END h) (is_between HIGH_SEGMENTS HIGH_SEGMENTS_END h) (not-false _ e)) [
      | inl t ↦ let p = and_parts (leb LOW_SEGMENTS h.p_vaddr) (leb (h.p_vaddr + h.p_memsz) LOW_SEGMENTS_END) t in inl (leb-true _ _ p.0, leb-true _ _ p.1)
      | inr t ↦ let p = and_parts (leb HIGH_SEGMENTS h.p_vaddr) (leb (h.p_vaddr + h.p_memsz) HIGH_SEGMENTS_END) t in inr (leb-true _ _ p.0, leb-true _ _ p.1)
    ]

-- a header with no fault can be loaded
loadable : (file : List ℕ) (h : ProgramHeader) → All (λ byte. byte < 256) file → is_segment h ≡ true → is_out_of_file (length file) h ≡ false → is_out_of_place h ≡ false → is_write_and_execute h ≡ false → IsLoadable file h
unfolding segment_of
loadable file h bytes is_seg in_file in_place exclusive =
    let kind = and_parts (is_load h) (ltb 0 h.p_memsz) is_seg in
    let past = ltb (length file) (h.p_offset + h.p_filesz) in
    let out = neither ((is_load h || is_note h) && ltb 0 h.p_filesz && past) (is_load h && ltb h.p_memsz h.p_filesz) in_file in
    let fits : h.p_filesz ≤ h.p_memsz = ltb-false _ _ (not_both (is_load h) (ltb h.p_memsz h.p_filesz) out.1 kind.0) in
    record {
      segment = record {
        in_place = is_in_place h in_place;
        not_empty = ltb-true _ _ kind.1;
        file_part = omega (arith, length-take h.p_filesz (drop h.p_offset file));
        are_bytes = All-take (λ byte. byte < 256) h.p_filesz (drop h.p_offset file) (All-drop (λ byte. byte < 256) h.p_offset file bytes);
        write_or_execute = not_both (is_writable h) (is_executable h) exclusive;
      };
      inside = inside_file file h in_file (either_left (is_load h) (is_note h) kind.0);
    }

-- so can each header with no fault
each_loadable : (file : List ℕ) (hs : List ProgramHeader) → All (λ byte. byte < 256) file
    → list_any (is_out_of_file (length file)) hs ≡ false → list_any is_out_of_place (filter is_segment hs) ≡ false → list_any is_write_and_execute (filter is_segment hs) ≡ false
    → AllByRecursion (IsLoadable file) (filter is_segment hs)
each_loadable file [] bytes o p w = tt
each_loadable file (h ∷ hs) bytes o p w =
    let o' = neither (is_out_of_file (length file) h) (list_any (is_out_of_file (length file)) hs) o in
    let fs = filter is_segment hs in
    elim (is_segment h) as (λ b. is_segment h ≡ b → list_any is_out_of_place (cond b (h ∷ fs) fs) ≡ false → list_any is_write_and_execute (cond b (h ∷ fs) fs) ≡ false → AllByRecursion (IsLoadable file) (cond b (h ∷ fs) fs)) [
      | true ↦ λ s p w.
          let p' = neither (is_out_of_place h) (list_any is_out_of_place fs) p in
          let w' = neither (is_write_and_execute h) (list_any is_write_and_execute fs) w in
          (loadable file h bytes s o'.0 p'.0 w'.0, each_loadable file hs bytes o'.1 p'.1 w'.1)
      | false ↦ λ s p w. each_loadable file hs bytes o'.1 p w
    ] refl p w

-- the bytes of each note segment are inside the file
notes_inside : (file : List ℕ) (hs : List ProgramHeader) → list_any (is_out_of_file (length file)) hs ≡ false → AllByRecursion (λ h. is_note h ≡ true → IsInside file h) hs
notes_inside file [] e = tt
notes_inside file (h ∷ hs) e =
    let e' = neither (is_out_of_file (length file) h) (list_any (is_out_of_file (length file)) hs) e in
    (λ n. inside_file file h e'.0 (either_right (is_load h) (is_note h) n), notes_inside file hs e'.1)

each_segment : (file : List ℕ) (hs : List ProgramHeader) → AllByRecursion (IsLoadable file) hs → AllByRecursion IsSegment (map (segment_of file) hs)
each_segment file [] l = tt
each_segment file (h ∷ hs) l = (l.0.segment, each_segment file hs l.1)

-- one that doesn't overlap any of the others is apart from each of them
apart_from : (file : List ℕ) (h : ProgramHeader) (hs : List ProgramHeader) → list_any (overlap h) hs ≡ false → AllByRecursion (IsApart (segment_of file h)) (map (segment_of file) hs)
unfolding segment_of
apart_from file h [] e = tt
apart_from file h (g ∷ hs) e =
    let e' = neither (overlap h g) (list_any (overlap h) hs) e in
    let one : IsApart (segment_of file h) (segment_of file g) =
    elim (and_cases (ltb h.p_vaddr (g.p_vaddr + g.p_memsz)) (ltb g.p_vaddr (h.p_vaddr + h.p_memsz)) e'.0) [
      | inl f ↦ inr (ltb-false _ _ f)
      | inr f ↦ inl (ltb-false _ _ f)
    ] in
    (one, apart_from file h hs e'.1)

are_apart : (file : List ℕ) (hs : List ProgramHeader) → has_overlap hs ≡ false → AreApart (map (segment_of file) hs)
unfolding has_overlap
are_apart file [] e = tt
are_apart file (h ∷ hs) e =
    let e' = neither (list_any (overlap h) hs) (has_overlap hs) e in
    (apart_from file h hs e'.0, are_apart file hs e'.1)

same_size : (file : List ℕ) (hs : List ProgramHeader) → sum_by (λ s. s.memory_size) (map (segment_of file) hs) ≡ sum_by (λ h. h.p_memsz) hs
unfolding segment_of
same_size file [] = refl
same_size file (h ∷ hs) =
    sum_by-cons (λ (s : SegmentView). s.memory_size) (segment_of file h) (map (segment_of file) hs)
    ∙ ap (λ n. h.p_memsz + n) (same_size file hs)
    ∙ sym (sum_by-cons (λ (h : ProgramHeader). h.p_memsz) h hs)

same_code : (file : List ℕ) (entry : ℕ) (hs : List ProgramHeader) → list_any (holds_code entry) (map (segment_of file) hs) ≡ list_any (has_word entry) hs
unfolding segment_of
same_code file entry [] = refl
same_code file entry (h ∷ hs) = ap (λ b. has_word entry h || b) (same_code file entry hs)

-- what is true where no fault of the segments holds
is_image : (file : List ℕ) → AllByRecursion (IsLoadable file) (segment_headers file) → has_overlap (segment_headers file) ≡ false
    → is_too_large (length file) (segment_headers file) ≡ false → is_not_code (e_entry file) (segment_headers file) ≡ false → IsImage (image_of file)
unfolding image_of is_too_large is_not_code
is_image file each apart large code =
    let hs = segment_headers file in
    let l = neither (ltb MAX_FILE_SIZE (length file) || ltb MAX_SEGMENTS (length hs)) (ltb MAX_MEMORY_SIZE (sum_by (λ h. h.p_memsz) hs)) large in
    let m = neither (ltb MAX_FILE_SIZE (length file)) (ltb MAX_SEGMENTS (length hs)) l.0 in
    let c = neither (not (eqb (e_entry file % 4) 0)) (not (list_any (has_word (e_entry file)) hs)) code in
    record {
      each = each_segment file hs each;
      apart = are_apart file hs apart;
      count = rw length-map (ltb-false _ _ m.1);
      size = rw (same_size file hs) (ltb-false _ _ l.1);
      entry_aligned = eqb-true _ _ (not-false _ c.0);
      entry_is_code = same_code file (e_entry file) hs ∙ not-false _ c.1;
    }

-- the bytes of each note segment of a file lie in it, where no fault of the headers by themselves holds
pub notes_in_place : (file : List ℕ) → None ≡ first_of place_faults file → All (λ h. is_note h ≡ true → IsInside file h) (program_headers file)
unfolding has_out_of_file
notes_in_place file e =
    let places = (has_places file [] e).0 in
    All-from_recursion _ _ (notes_inside file (program_headers file) places.inside)

-- A file with no fault of the segments has an image.
pub has_image : (file : List ℕ) → AreBytes file → None ≡ first_of segment_faults file → HasImage file
unfolding has_out_of_file has_out_of_place has_write_and_execute
has_image file bytes e =
    let places = has_places file (TooLarge ∷ EntryNotCode ∷ []) e in
    let large = not_told _ _ _ places.1 in
    let code = not_told _ _ _ large.1 in
    let p = places.0 in
    let all_bytes = All-from_get_or (λ byte. byte < 256) file 0 (λ i l. bytes i) in
    let each = each_loadable file (program_headers file) all_bytes p.inside p.place p.exclusive in
    record { segments = All-from_recursion (IsLoadable file) _ each; notes = All-from_recursion _ _ (notes_inside file (program_headers file) p.inside); image = is_image file each p.apart large.0 code.0 }
