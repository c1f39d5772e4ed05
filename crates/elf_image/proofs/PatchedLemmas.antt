-- The file with another e_phoff and e_phnum.
use Rattle.std.proofs.Common.{◌≡◌, ℕ, ◌+◌, ◌<◌, ◌≤◌, inl, inr, false, ◌&&◌, ltb, refl, sym, ap, ◌∙◌, arith, List, ◌++◌, length, length-append, take, drop}
use Rattle.std.proofs.lemmas.Bool.{and_cases, ltb-false}
use Rattle.std.proofs.lemmas.List.{append_assoc, take-append-drop, drop-drop, length-drop, length-take}
use Rattle.elf_image.proofs.AttachedSize.{word_long, half_long}
use Rattle.elf_image.proofs.HasImage.{neither}
use Rattle.elf_image.specs.declared.header.ProgramHeader.{ProgramHeader}
use Rattle.elf_image.specs.Words.{half_at, word_at, half, word}
use Rattle.elf_image.specs.File.{e_phnum, segment_of}
use Rattle.elf_image.specs.Attached.{part, rest_from, patched}
use Rattle.elf_image.specs.Notes.{padded}
use Rattle.elf_image.specs.ReadBack.{covers, is_changed, SegmentsAreKept}
use Rattle.elf_image.proofs.PartLemmas.{IsBeside, beside_piece, behind_piece, half_there, word_there}

module _ (offset count : ℕ) (file : List ℕ) (long : 52 ≤ length file) where
  pre : List ℕ
  pre = take 28 file

  phoff : List ℕ
  phoff = take 4 (drop 28 file)

  between : List ℕ
  between = take 12 (drop 32 file)

  phnum : List ℕ
  phnum = take 2 (drop 44 file)

  post : List ℕ
  post = drop 46 file

  pre_long : length pre ≡ 28
  unfolding pre
  pre_long = omega (arith, length-take 28 file)

  phoff_long : length phoff ≡ 4
  unfolding phoff
  phoff_long = omega (arith, length-take 4 (drop 28 file), length-drop 28 file)

  between_long : length between ≡ 12
  unfolding between
  between_long = omega (arith, length-take 12 (drop 32 file), length-drop 32 file)

  phnum_long : length phnum ≡ 2
  unfolding phnum
  phnum_long = omega (arith, length-take 2 (drop 44 file), length-drop 44 file)

  -- the bytes from an offset on, in two parts
  rest_in_two : (o n : ℕ) → drop o file ≡ take n (drop o file) ++ drop (o + n) file
  rest_in_two o n = sym (take-append-drop n (drop o file)) ∙ ap (λ (r : List ℕ). take n (drop o file) ++ r) (drop-drop n o file)

  file_is : file ≡ pre ++ (phoff ++ (between ++ (phnum ++ post)))
  unfolding pre phoff between phnum post
  file_is =
      rest_in_two 0 28
      ∙ ap (λ (r : List ℕ). take 28 file ++ r) (rest_in_two 28 4
      ∙ ap (λ (r : List ℕ). take 4 (drop 28 file) ++ r) (rest_in_two 32 12
      ∙ ap (λ (r : List ℕ). take 12 (drop 32 file) ++ r) (rest_in_two 44 2)))

  patched_is : patched offset count file ≡ pre ++ (word offset ++ (between ++ (half count ++ post)))
  unfolding patched part rest_from pre between post
  patched_is =
      append_assoc (take 28 file ++ word offset ++ between) (half count) post
      ∙ append_assoc (take 28 file ++ word offset) between (half count ++ post)
      ∙ append_assoc (take 28 file) (word offset) (between ++ (half count ++ post))

  -- a part that has no byte of the two is the same
  pub kept : (o n : ℕ) → IsBeside 28 4 o n → IsBeside 44 2 o n → take n (drop o (patched offset count file)) ≡ take n (drop o file)
  kept o n b c =
      let behind = between ++ (half count ++ post) in
      let other : (half : List ℕ) → pre ++ (phoff ++ (between ++ (half ++ post))) ≡ (pre ++ phoff ++ between) ++ (half ++ post) = λ half.
      sym (append_assoc (pre ++ phoff) between (half ++ post) ∙ append_assoc pre phoff (between ++ (half ++ post))) in
      let front_long : length (pre ++ phoff ++ between) ≡ 44 =
      omega (arith, length-append (pre ++ phoff) between, length-append pre phoff, pre_long, phoff_long, between_long) in
      let first : IsBeside (length pre) (length phoff) o n = rw (pre_long, phoff_long) b in
      let second : IsBeside (length (pre ++ phoff ++ between)) (length phnum) o n = rw (front_long, phnum_long) c in
      let at : List ℕ → List ℕ = λ (xs : List ℕ). take n (drop o xs) in
      ap at patched_is
      ∙ beside_piece o n pre phoff (word offset) behind (word_long offset ∙ sym phoff_long) first
      ∙ ap at (other (half count))
      ∙ beside_piece o n (pre ++ phoff ++ between) phnum (half count) post (half_long count ∙ sym phnum_long) second
      ∙ sym (ap at (file_is ∙ other phnum))

  pub phoff_is : offset < 4294967296 → word_at 28 (patched offset count file) ≡ offset
  phoff_is l =
      let behind = between ++ (half count ++ post) in
      let there : drop 28 (patched offset count file) ≡ word offset ++ behind =
      ap (drop 28) patched_is ∙ behind_piece 28 0 pre (word offset ++ behind) (omega (arith, pre_long)) in
      word_there 28 offset (patched offset count file) behind l there

  pub phnum_is : count < 65536 → half_at 44 (patched offset count file) ≡ count
  phnum_is l =
      let third = half count ++ post in
      let second = between ++ third in
      let there : drop 44 (patched offset count file) ≡ third =
      ap (drop 44) patched_is
      ∙ behind_piece 44 16 pre (word offset ++ second) (omega (arith, pre_long))
      ∙ behind_piece 16 12 (word offset) second (omega (arith, word_long offset))
      ∙ behind_piece 12 0 between third (omega (arith, between_long)) in
      half_there 44 count (patched offset count file) post l there

beside_of : (from size o n : ℕ) → (ltb 0 n && ltb o (from + size) && ltb from (o + n)) ≡ false → IsBeside from size o n
beside_of from size o n e =
    elim (and_cases (ltb 0 n && ltb o (from + size)) (ltb from (o + n)) e) [
      | inl f ↦ elim (and_cases (ltb 0 n) (ltb o (from + size)) f) [
        | inl none ↦ inl (omega (arith, ltb-false 0 n none))
        | inr after ↦ inr (inr (ltb-false _ _ after))
      ]
      | inr before ↦ inr (inl (ltb-false _ _ before))
    ]

-- a segment that shows neither of them has no byte of theirs
pub are_beside : (h : ProgramHeader) → is_changed h ≡ false → IsBeside 28 4 h.p_offset h.p_filesz × IsBeside 44 2 h.p_offset h.p_filesz
unfolding is_changed
are_beside h e =
    let both = neither (covers 28 4 h) (covers 44 2 h) e in
    (beside_of 28 4 h.p_offset h.p_filesz both.0, beside_of 44 2 h.p_offset h.p_filesz both.1)

pub segments-are-kept : SegmentsAreKept
unfolding segment_of
segments-are-kept file h long e =
    let beside = are_beside h e in
    rw (kept (padded (length file)) (e_phnum file + 1) file long h.p_offset h.p_filesz beside.0 beside.1) refl
