-- The fields, the program headers and the parts of a file with a certificate.
use Rattle.std.proofs.Common.{◌≡◌, ℕ, ◌+◌, ◌*◌, ◌<◌, ◌≤◌, refl, sym, ap, ◌∙◌, arith, List, [], ◌∷◌, ◌++◌, length, length-append, take, drop, map, filter}
use Rattle.std.specs.List.{range_with_len}
use Rattle.std.proofs.lemmas.List.{append_assoc, append-nil, take-append-drop, drop-drop}
use Rattle.std.proofs.lemmas.List.Elements.{filter-append}
use Rattle.std.proofs.lemmas.List.FromFn.{map-range_with_len_more}
use Rattle.std.proofs.Math.Seq.{take-length}
use Rattle.elf_image.specs.declared.header.ProgramHeader.{ProgramHeader}
use Rattle.elf_image.specs.Words.{word_at, word}
use Rattle.elf_image.specs.Notes.{padded}
use Rattle.elf_image.specs.File.{HasTable, e_phoff, e_phnum, program_header_at, program_headers, segment_headers, is_segment}
use Rattle.elf_image.specs.Attached.{padding, note_with, note_header, note_offset, patched_of, headers_of, attached_of}
use Rattle.elf_image.proofs.AttachedSize.{padding_long, note_long, patched_long, header_long, headers_long, attached_long}
use Rattle.elf_image.proofs.PartLemmas.{IsBeside, first_piece, behind_piece, same_half, same_word, word_there, same_on_range}
use Rattle.elf_image.proofs.PatchedLemmas.{kept, phoff_is, phnum_is}

-- the program header of a note
unfoldable pub note_header_of : ℕ → ℕ → ProgramHeader
note_header_of offset size = record { p_type = 4; p_offset = offset; p_vaddr = 0; p_filesz = size; p_memsz = size; p_flags = 4 }

-- one of the numbers that a number of bytes are made of
number_there : (o k v : ℕ) (xs bytes : List ℕ) → v < 4294967296 → drop o xs ≡ bytes → drop k bytes ≡ word v ++ drop (k + 4) bytes → word_at (o + k) xs ≡ v
number_there o k v xs bytes l e f = word_there (o + k) v xs (drop (k + 4) bytes) l (sym (drop-drop k o xs) ∙ ap (drop k) e ∙ f)

-- it is read back from its bytes
note_header_there : (o offset size : ℕ) (xs ys : List ℕ) → offset < 4294967296 → size < 4294967296
    → drop o xs ≡ note_header offset size ++ ys → program_header_at o xs ≡ note_header_of offset size
unfolding note_header note_header_of word
note_header_there o offset size xs ys l m e =
    let bytes = note_header offset size ++ ys in
    let kind : word_at (o + 0) xs ≡ 4 = number_there o 0 4 xs bytes (omega arith) e refl in
    let place : word_at (o + 4) xs ≡ offset = number_there o 4 offset xs bytes l e refl in
    let address : word_at (o + 8) xs ≡ 0 = number_there o 8 0 xs bytes (omega arith) e refl in
    let in_file : word_at (o + 16) xs ≡ size = number_there o 16 size xs bytes m e refl in
    let in_memory : word_at (o + 20) xs ≡ size = number_there o 20 size xs bytes m e refl in
    let rights : word_at (o + 24) xs ≡ 4 = number_there o 24 4 xs bytes (omega arith) e refl in
    rw (kind, place, address, in_file, in_memory, rights) refl

module _ (file cert : List ℕ) (table : HasTable file) (few : e_phnum file < 64) (fits : length (attached_of file cert) ≤ 4194304) where
  abbrev pub count : ℕ
  count = e_phnum file

  abbrev pub base : ℕ
  base = padded (length file)

  abbrev pub at : ℕ
  at = note_offset (length file) (e_phnum file)

  abbrev pub note : List ℕ
  note = note_with cert

  abbrev header : List ℕ
  header = note_header at (length note)

  front : List ℕ
  front = patched_of file ++ padding (length file)

  front_long : length front ≡ base
  unfolding front
  front_long = omega (arith, length-append (patched_of file) (padding (length file)), patched_long base (count + 1) file table.header, padding_long (length file))

  attached_is : attached_of file cert ≡ front ++ (headers_of file ++ (header ++ note))
  unfolding attached_of front
  attached_is =
      append_assoc (front ++ headers_of file) header note
      ∙ append_assoc front (headers_of file) (header ++ note)

  -- where the note ends
  pub end : length (attached_of file cert) ≡ at + length note
  end = omega (arith, attached_long file cert table, note_long cert)

  -- a part of the file
  pub part_of_file : (o n : ℕ) → (0 < n → o + n ≤ length file) → take n (drop o (attached_of file cert)) ≡ take n (drop o (patched_of file))
  unfolding front
  part_of_file o n l =
      let behind = padding (length file) ++ (headers_of file ++ (header ++ note)) in
      let size = patched_long base (count + 1) file table.header in
      ap (λ (xs : List ℕ). take n (drop o xs)) (attached_is ∙ append_assoc (patched_of file) (padding (length file)) (headers_of file ++ (header ++ note)))
      ∙ first_piece o n (patched_of file) behind (λ some. rw size (l some))

  -- a part of its header that has no byte of e_phoff or e_phnum
  pub part_kept : (o n : ℕ) → o + n ≤ 52 → IsBeside 28 4 o n → IsBeside 44 2 o n → take n (drop o (attached_of file cert)) ≡ take n (drop o file)
  part_kept o n l b c =
      let long : 52 ≤ length file = table.header in
      part_of_file o n (λ _. omega arith) ∙ kept base (count + 1) file table.header o n b c

  pub offset_is : e_phoff (attached_of file cert) ≡ base
  offset_is =
      let long : 52 ≤ length file = table.header in
      same_word 28 28 (attached_of file cert) (patched_of file) (part_of_file 28 4 (λ _. omega arith))
      ∙ phoff_is base (count + 1) file table.header (omega (arith, fits, end))

  pub count_is : e_phnum (attached_of file cert) ≡ count + 1
  count_is =
      let long : 52 ≤ length file = table.header in
      same_half 44 44 (attached_of file cert) (patched_of file) (part_of_file 44 2 (λ _. omega arith))
      ∙ phnum_is base (count + 1) file table.header (omega (arith, few))

  -- the words of an old program header
  word_in_table : (i k : ℕ) → i < count → k + 4 ≤ 32
      → word_at (base + 32 * i + k) (attached_of file cert) ≡ word_at (e_phoff file + 32 * i + k) file
  word_in_table i k l m =
      let j = 32 * i + k in
      let table_long = headers_long file table in
      let behind = header ++ note in
      let there : drop (base + 32 * i + k) (attached_of file cert) ≡ drop j (headers_of file ++ behind) =
      ap (drop (base + 32 * i + k)) attached_is
      ∙ behind_piece (base + 32 * i + k) j front (headers_of file ++ behind) (omega (arith, front_long)) in
      let whole : drop (e_phoff file) file ≡ headers_of file ++ drop (32 * count) (drop (e_phoff file) file) = sym (take-append-drop (32 * count) (drop (e_phoff file) file)) in
      let before : drop (e_phoff file + 32 * i + k) file ≡ drop j (headers_of file ++ drop (32 * count) (drop (e_phoff file) file)) =
      ap (λ (o : ℕ). drop o file) (omega arith) ∙ sym (drop-drop j (e_phoff file) file) ∙ ap (drop j) whole in
      let inside : j + 4 ≤ length (headers_of file) = omega (arith, table_long) in
      same_word (base + 32 * i + k) (e_phoff file + 32 * i + k) (attached_of file cert) file
      (ap (take 4) there
      ∙ first_piece j 4 (headers_of file) behind (λ _. inside)
      ∙ sym (first_piece j 4 (headers_of file) (drop (32 * count) (drop (e_phoff file) file)) (λ _. inside))
      ∙ sym (ap (take 4) before))

  old_header : (i : ℕ) → i < count → program_header_at (base + 32 * i) (attached_of file cert) ≡ program_header_at (e_phoff file + 32 * i) file
  old_header i l =
      rw (
        word_in_table i 0 l (omega arith),
        word_in_table i 4 l (omega arith),
        word_in_table i 8 l (omega arith),
        word_in_table i 16 l (omega arith),
        word_in_table i 20 l (omega arith),
        word_in_table i 24 l (omega arith),
      ) refl

  behind_headers : (o k : ℕ) → o ≡ base + 32 * count + k → drop o (attached_of file cert) ≡ drop k (header ++ note)
  behind_headers o k e =
      let table_long = headers_long file table in
      ap (drop o) attached_is
      ∙ behind_piece o (32 * count + k) front (headers_of file ++ (header ++ note)) (omega (arith, front_long))
      ∙ behind_piece (32 * count + k) k (headers_of file) (header ++ note) (omega (arith, table_long))

  new_header : program_header_at (base + 32 * count) (attached_of file cert) ≡ note_header_of at (length note)
  new_header =
      note_header_there (base + 32 * count) at (length note) (attached_of file cert) note (omega (arith, fits, end)) (omega (arith, fits, end))
      (behind_headers (base + 32 * count) 0 (omega arith))

  pub headers_are : program_headers (attached_of file cert) ≡ program_headers file ++ note_header_of at (length note) ∷ []
  unfolding program_headers
  headers_are =
      let all = attached_of file cert in
      let new = λ (i : ℕ). program_header_at (base + 32 * i) all in
      let old = λ (i : ℕ). program_header_at (e_phoff file + 32 * i) file in
      let at_offset : map (λ (i : ℕ). program_header_at (e_phoff all + 32 * i) all) (range_with_len 0 (e_phnum all)) ≡ map new (range_with_len 0 (count + 1)) =
      rw (offset_is, count_is) refl in
      at_offset
      ∙ map-range_with_len_more new 0 count count (omega arith)
      ∙ ap (λ (hs : List ProgramHeader). hs ++ new count ∷ []) (same_on_range new old 0 count (λ i _ l. old_header i (omega (arith, l))))
      ∙ ap (λ (h : ProgramHeader). map old (range_with_len 0 count) ++ h ∷ []) new_header

  pub segments_are : segment_headers (attached_of file cert) ≡ segment_headers file
  unfolding note_header_of
  segments_are =
      ap (filter is_segment) headers_are
      ∙ filter-append is_segment (program_headers file) (note_header_of at (length note) ∷ [])
      ∙ append-nil (segment_headers file)

  -- the bytes of the note's segment
  pub note_is : take (length note) (drop at (attached_of file cert)) ≡ note
  note_is =
      ap (take (length note)) (behind_headers at 32 (omega arith) ∙ behind_piece 32 0 header note (omega (arith, header_long at (length note))))
      ∙ take-length note
