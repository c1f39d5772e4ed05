-- What is known of a file tells whether it has the fault.
use Rattle.std.proofs.Common.{◌≡◌, ℕ, nat_lt, not, ◌+◌, ◌<◌, Bool, true, false, cond, ◌&&◌, ◌||◌, List, [], ◌∷◌, ◌++◌, length, filter, Option, None, Some, suc, zero, refl, sym, ap, ◌∙◌, arith}
use Rattle.std.specs.List.{list_any, position, position_or_len, range_with_len}
use Rattle.std.specs.Option.{is_some, option_map}
use Rattle.std.proofs.lemmas.Bool.{le-ltb, lt-ltb, ltb-false, ltb-true}
use Rattle.std.proofs.lemmas.List.FromFn.{length-map-range_with_len}
use Rattle.std.proofs.lemmas.List.Quantifiers.{position-Some}
use Rattle.elf_image.specs.declared.error.ElfError.{ElfError}
use Rattle.elf_image.specs.declared.error.ElfError.TheVariants.{SegmentsOverlap}
use Rattle.elf_image.specs.declared.evidence.ElfRefusal.{ElfRefusal}
use Rattle.elf_image.specs.declared.evidence.SegmentRule.{SegmentRule}
use Rattle.elf_image.specs.declared.evidence.SegmentRule.TheVariants.{Static, InFile, InPlace, WriteOrExecute}
use Rattle.elf_image.specs.declared.header.ProgramHeader.{ProgramHeader}
use Rattle.elf_image.specs.File.{e_phnum, header_offset, is_segment, program_header_at, program_headers}
use Rattle.elf_image.specs.Faults.{first_of, has_out_of_file, has_out_of_place, has_overlap, has_write_and_execute, holds, is_not_static, is_out_of_place, is_write_and_execute, overlap}
use Rattle.elf_image.specs.Evidence.{are_overlapping, breaks, error_of, first_refusal, overlap_from, pair_or, refusal_if, refusal_of}

-- a place is found exactly where one passes
found_if : (b : Bool) (n : ℕ) → is_some (cond b (Some n) None) ≡ b
found_if true n = refl
found_if false n = refl

lt_more : (a b : ℕ) → nat_lt (1 + a) (suc b) ≡ nat_lt a b
lt_more a b = at (nat_lt a b) refl
  where
    at : (x : Bool) → nat_lt a b ≡ x → nat_lt (1 + a) (suc b) ≡ x
    at true e = lt-ltb (1 + a) (suc b) (omega (arith, ltb-true a b e))
    at false e = le-ltb (1 + a) (suc b) (omega (arith, ltb-false a b e))

place_any : {X : Type 0} (p : X → Bool) (xs : List X) → nat_lt (position_or_len p xs) (length xs) ≡ list_any p xs
place_any p [] = refl
place_any p (x ∷ xs) = elim (p x) as (λ b. nat_lt (cond (not b) (1 + position_or_len p xs) 0) (suc (length xs)) ≡ (b || list_any p xs)) [
  | true ↦ lt-ltb 0 (suc (length xs)) (omega arith)
  | false ↦ lt_more (position_or_len p xs) (length xs) ∙ place_any p xs
]

position_any : {X : Type 0} (p : X → Bool) (xs : List X) → is_some (position p xs) ≡ list_any p xs
position_any p xs = found_if (nat_lt (position_or_len p xs) (length xs)) (position_or_len p xs) ∙ place_any p xs

any_filter : {X : Type 0} (p q : X → Bool) (xs : List X) → list_any p (filter q xs) ≡ list_any (λ x. q x && p x) xs
any_filter p q [] = refl
any_filter p q (x ∷ xs) = elim (q x) as (λ b. list_any p (cond b (x ∷ filter q xs) (filter q xs)) ≡ ((b && p x) || list_any (λ x. q x && p x) xs)) [
  | true ↦ ap (λ b. p x || b) (any_filter p q xs)
  | false ↦ any_filter p q xs
]

-- a file has a program header that breaks a rule exactly where it is refused for that
breaks_any : (rule : SegmentRule) (file : List ℕ) → list_any (breaks rule (length file)) (program_headers file) ≡ holds (error_of rule) file
unfolding breaks is_not_static has_out_of_file has_out_of_place has_write_and_execute
breaks_any Static file = refl
breaks_any InFile file = refl
breaks_any InPlace file = sym (any_filter is_out_of_place is_segment (program_headers file))
breaks_any WriteOrExecute file = sym (any_filter is_write_and_execute is_segment (program_headers file))

pub rule_told : (rule : SegmentRule) (file : List ℕ) → holds (error_of rule) file ≡ is_some (position (breaks rule (length file)) (program_headers file))
rule_told rule file = sym (position_any (breaks rule (length file)) (program_headers file) ∙ breaks_any rule file)

-- its number is that of a header of the table
pub number_in_table : (p : ProgramHeader → Bool) (file : List ℕ) (n : ℕ) → position p (program_headers file) ≡ Some n → n < e_phnum file
unfolding program_headers
number_in_table p file n e =
    let found = position-Some p (program_headers file) n (program_header_at 0 file) e in
    let many = length-map-range_with_len (λ i. program_header_at (header_offset i file) file) 0 (e_phnum file) in
    omega (arith, found.0, many)

-- ---- two segments that share an address

any_none : {X : Type 0} (xs : List X) → list_any (λ x. false) xs ≡ false
any_none [] = refl
any_none (x ∷ xs) = any_none xs

is_some_pair : (n : ℕ) (rest : Option (ℕ × ℕ)) (o : Option ℕ) → is_some (pair_or n rest o) ≡ (is_some o || is_some rest)
is_some_pair n rest None = refl
is_some_pair n rest (Some k) = refl

-- one header more
overlap_more : (h : ProgramHeader) (hs : List ProgramHeader) → (list_any (are_overlapping h) hs || has_overlap (filter is_segment hs)) ≡ has_overlap (filter is_segment (h ∷ hs))
unfolding has_overlap
overlap_more h hs =
    let fs = filter is_segment hs in
    elim (is_segment h) as (λ b. (list_any (λ g. b && is_segment g && overlap h g) hs || has_overlap fs) ≡ has_overlap (cond b (h ∷ fs) fs)) [
      | true ↦ ap (λ b. b || has_overlap fs) (sym (any_filter (overlap h) is_segment hs))
      | false ↦ ap (λ b. b || has_overlap fs) (any_none hs)
    ]

overlap_any : (n : ℕ) (hs : List ProgramHeader) → is_some (overlap_from n hs) ≡ has_overlap (filter is_segment hs)
unfolding overlap_from has_overlap
overlap_any n [] = refl
overlap_any n (h ∷ hs) =
    is_some_pair n (overlap_from (n + 1) hs) (position (are_overlapping h) hs)
    ∙ (ap (λ b. b || is_some (overlap_from (n + 1) hs)) (position_any (are_overlapping h) hs)
    ∙ (ap (λ b. list_any (are_overlapping h) hs || b) (overlap_any (n + 1) hs)
    ∙ overlap_more h hs))

pub overlap_told : (file : List ℕ) → holds SegmentsOverlap file ≡ is_some (overlap_from 0 (program_headers file))
overlap_told file = sym (overlap_any 0 (program_headers file))

abbrev one_of : Option (ℕ × ℕ) → ℕ
one_of None = 0
one_of (Some both) = both.0

abbrev other_of : Option (ℕ × ℕ) → ℕ
other_of None = 0
other_of (Some both) = both.1

-- their numbers are those of two of the headers
pair_below : (n : ℕ) (hs : List ProgramHeader) (a b : ℕ) → overlap_from n hs ≡ Some (a, b) → (a < n + length hs) × (b < n + length hs)
unfolding overlap_from
pair_below n [] a b e = absurd cc
pair_below n (h ∷ hs) a b e = at (position (are_overlapping h) hs) refl (pair_below (n + 1) hs a b) e
  where
    at : (o : Option ℕ) → position (are_overlapping h) hs ≡ o
        → (overlap_from (n + 1) hs ≡ Some (a, b) → (a < n + 1 + length hs) × (b < n + 1 + length hs))
        → pair_or n (overlap_from (n + 1) hs) o ≡ Some (a, b) → (a < n + suc (length hs)) × (b < n + suc (length hs))
    at None here later e =
        let rest = later e in
        (omega (arith, rest.0), omega (arith, rest.1))
    at (Some k) here later e =
        let found = position-Some (are_overlapping h) hs k h here in
        let one : n ≡ a = ap one_of e in
        let other : n + 1 + k ≡ b = ap other_of e in
        (omega (arith, one), omega (arith, other, found.0))

pub numbers_in_table : (file : List ℕ) (a b : ℕ) → overlap_from 0 (program_headers file) ≡ Some (a, b) → (a < e_phnum file) × (b < e_phnum file)
unfolding program_headers
numbers_in_table file a b e =
    let below = pair_below 0 (program_headers file) a b e in
    let many = length-map-range_with_len (λ i. program_header_at (header_offset i file) file) 0 (e_phnum file) in
    (omega (arith, below.0, many), omega (arith, below.1, many))

-- ---- the first fault of a list

told_first : (file : List ℕ) (r : ElfRefusal) (o : Option ElfError) → Some r ≡ option_map (refusal_of file) o → (o ≡ Some r.error) × (r ≡ refusal_of file r.error)
told_first file r None e = absurd cc
told_first file r (Some fault) e =
    let same : r ≡ refusal_of file fault = cc in
    let of : r.error ≡ fault = ap (λ (r : ElfRefusal). r.error) same in
    (ap (λ f. Some f) (sym of), same ∙ ap (refusal_of file) (sym of))

none_first : (file : List ℕ) (o : Option ElfError) → None ≡ option_map (refusal_of file) o → None ≡ o
none_first file None e = refl
none_first file (Some fault) e = absurd cc

found_before : (faults others : List ElfError) (file : List ℕ) (fault : ElfError) → first_of faults file ≡ Some fault → first_of (faults ++ others) file ≡ Some fault
found_before [] others file fault e = absurd cc
found_before (f ∷ faults) others file fault e =
    elim (holds f file) as (λ b. cond b (Some f) (first_of faults file) ≡ Some fault → cond b (Some f) (first_of (faults ++ others) file) ≡ Some fault) [
      | true ↦ λ e. e
      | false ↦ λ e. found_before faults others file fault e
    ] e

found_behind : (faults others : List ElfError) (file : List ℕ) → None ≡ first_of faults file → first_of (faults ++ others) file ≡ first_of others file
found_behind [] others file e = refl
found_behind (f ∷ faults) others file e =
    elim (holds f file) as (λ b. None ≡ cond b (Some f) (first_of faults file) → cond b (Some f) (first_of (faults ++ others) file) ≡ first_of others file) [
      | true ↦ λ e. absurd cc
      | false ↦ λ e. found_behind faults others file e
    ] e

-- a refusal by the first of these faults is one by the first of more of them
pub is_refused : (faults others : List ElfError) (file : List ℕ) (r : ElfRefusal) → Some r ≡ first_refusal faults file → (first_of (faults ++ others) file ≡ Some r.error) × (r ≡ refusal_of file r.error)
is_refused faults others file r e =
    let told = told_first file r (first_of faults file) e in
    (found_before faults others file r.error told.0, told.1)

-- where none of these faults is the answer, none of them is there
pub none_told : (faults : List ElfError) (file : List ℕ) → None ≡ first_refusal faults file → None ≡ first_of faults file
none_told faults file e = none_first file (first_of faults file) e

-- and the error in the answer is the first of them
pub error_told : (faults : List ElfError) (file : List ℕ) (r : ElfRefusal) → Some r ≡ first_refusal faults file → Some r.error ≡ first_of faults file
error_told faults file r e = sym (told_first file r (first_of faults file) e).0

-- else the first is one of the others
pub is_told_of : (faults others : List ElfError) (file : List ℕ) → None ≡ first_refusal faults file → first_of (faults ++ others) file ≡ first_of others file
is_told_of faults others file e = found_behind faults others file (none_told faults file e)

-- a refusal by the first of the others is one by the first of all
pub is_next : (faults others : List ElfError) (file : List ℕ) (fault : ElfError) (r : ElfRefusal) → None ≡ first_refusal faults file → Some r ≡ refusal_if file fault → Some r ≡ first_refusal (faults ++ fault ∷ others) file
is_next faults others file fault r before e =
    one (holds fault file) (first_of others file) e ∙ sym (ap (option_map (refusal_of file)) (is_told_of faults (fault ∷ others) file before))
  where
    one : (b : Bool) (rest : Option ElfError) → Some r ≡ cond b (Some (refusal_of file fault)) None → Some r ≡ option_map (refusal_of file) (cond b (Some fault) rest)
    one true rest e = e
    one false rest e = absurd cc
