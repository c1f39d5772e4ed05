-- A run starts with the code of its image in memory, and none of it may be written.
use Rattle.std.proofs.Common.{◌≡◌, ◌⊎◌, inl, inr, ℕ, suc, ◌+◌, ◌-◌, ◌^◌, ◌<◌, ◌≤◌, Bool, true, false, ◌&&◌, ◌||◌, cond, ltb, leb, List, [], ◌∷◌, ◌++◌, length, map, find, replicate, Some, slice_index, arith, sym, ap, refl, ◌∙◌}
use Rattle.std.specs.List.{AllByRecursion, range_with_len}
use Rattle.std.specs.Option.{option_map}
use Rattle.std.proofs.lemmas.Bool.{and_parts, and_from, leb-true, le-leb, cases_lt}
use Rattle.std.proofs.lemmas.Bool.Decides.{nat_tests}
use Rattle.std.proofs.lemmas.List.{get_or_append_left, get_or-append_right, get_or-replicate, get_or_past}
use Rattle.byteorder.specs.Endian.{little_from}
use Rattle.elf_image.specs.Image.{SegmentView, IsSegment, ImageView, IsImage, holds_code, word_in, code_at}
use Rattle.region_mem.specs.Words.{Param, Arg, Right, Write, Fetch}
use Rattle.region_mem.specs.Areas.{Area, AreInOrder, AreInside, ArePlaced, holds, has_right, spans, admits, is_open, number_of, number_in}
use Rattle.region_mem.specs.Memory.{Memory, is_permitted, fetch_of}
use Rattle.region_mem.specs.Parameter.{Argument}
use Rattle.region_mem.specs.Start.{zeros, segment_area, stack_area, buffer_area, buffer_areas, insert_area, insert_areas, start_areas, start_memory}
use Rattle.region_mem.specs.Laws.{StartsWithCode, StartsCodeSafe, StartsInside}
use Rattle.region_mem.specs.ApartLemmas.{end_of, starts_in_order, all_insert, all_inserts, length_segment, length_zeros}
use Rattle.region_mem.specs.AccessLemmas.{admits_spans, spans_from, spans_to, open_in_one, number_in_one, holds_from}
use Rattle.region_mem.specs.ExtentLemmas.{start_placed}
use Rattle.region_mem.specs.SearchLemmas.{begins_at, not_before, not_past}

-- The area is one of the list.
abbrev pub IsOne : Area → List Area → Type 0
IsOne area [] = ⊥
IsOne area (other ∷ areas) = (area ≡ other) ⊎ IsOne area areas

insert_one_step : (area new other : Area) (areas : List Area) (b : Bool) → (area ≡ new) ⊎ IsOne area (other ∷ areas) →
    ((area ≡ new) ⊎ IsOne area areas → IsOne area (insert_area new areas)) → IsOne area (cond b (new ∷ other ∷ areas) (other ∷ insert_area new areas))
insert_one_step area new other areas true one rest = one
insert_one_step area new other areas false (inl same) rest = inr (rest (inl same))
insert_one_step area new other areas false (inr (inl same)) rest = inl same
insert_one_step area new other areas false (inr (inr one)) rest = inr (rest (inr one))

insert_one : (area new : Area) (areas : List Area) → (area ≡ new) ⊎ IsOne area areas → IsOne area (insert_area new areas)
unfolding insert_area
insert_one area new [] one = one
insert_one area new (other ∷ areas) one = insert_one_step area new other areas (ltb new.first other.first) one (λ o. insert_one area new areas o)

inserts_one : (area : Area) (others areas : List Area) → IsOne area others ⊎ IsOne area areas → IsOne area (insert_areas others areas)
unfolding insert_areas
inserts_one area [] areas (inl one) = absurd one
inserts_one area [] areas (inr one) = one
inserts_one area (other ∷ others) areas (inl (inl same)) = inserts_one area others (insert_area other areas) (inr (insert_one area other areas (inl same)))
inserts_one area (other ∷ others) areas (inl (inr one)) = inserts_one area others (insert_area other areas) (inl one)
inserts_one area (other ∷ others) areas (inr one) = inserts_one area others (insert_area other areas) (inr (insert_one area other areas (inr one)))

-- Of areas in order, the one that holds an address is found for it.
begins_from : (from : ℕ) (area : Area) (areas : List Area) → AreInOrder from areas → IsOne area areas → from ≤ area.first
unfolding AreInOrder
begins_from from area [] order one = absurd one
begins_from from area (other ∷ areas) order (inl same) = rw same order.0
begins_from from area (other ∷ areas) order (inr one) =
    let rest = begins_from (end_of other) area areas order.1 one in omega (arith, order.0, rest)

one_found : (x from : ℕ) (area : Area) (areas : List Area) → AreInOrder from areas → IsOne area areas → holds x area ≡ true → find (holds x) areas ≡ Some area
unfolding AreInOrder
one_found x from area [] order one here = absurd one
one_found x from area (other ∷ areas) order (inl same) here =
    let there : holds x other ≡ true = rw (← same) here in
    rw (there, same) refl
one_found x from area (other ∷ areas) order (inr one) here =
    let low = begins_at x area here in
    let rest = begins_from (end_of other) area areas order.1 one in
    rw (not_past x other (omega (arith, low, rest))) (one_found x (end_of other) area areas order.1 one here)

one_inside : (area : Area) (areas : List Area) → AreInside areas → IsOne area areas → end_of area ≤ 2 ^ 32
unfolding AreInside
one_inside area [] inside one = absurd one
one_inside area (other ∷ areas) inside (inl same) = rw same inside.0
one_inside area (other ∷ areas) inside (inr one) = one_inside area areas inside.1 one

-- What an area admits is fetched from it.
fetch_is : (pc word : ℕ) (memory : Memory) (area : Area) → ArePlaced memory.areas → IsOne area memory.areas → admits Fetch pc 4 area ≡ true →
    number_in pc 4 area ≡ word → fetch_of pc memory ≡ Some word
unfolding fetch_of is_permitted
fetch_is pc word memory area placed one here is =
    let span = admits_spans Fetch pc 4 area here in
    let from = spans_from pc 4 area span in
    let to = spans_to pc 4 area span in
    let end = one_inside area memory.areas placed.1 one in
    let found = one_found pc 0 area memory.areas placed.0 one (holds_from pc area from (omega (arith, to))) in
    rw (open_in_one Fetch pc 4 memory.areas area placed.0 found here (omega (arith, to, end)), number_in_one Fetch pc 4 memory.areas area placed.0 found here)
    (ap Some is)

-- The word in a segment's area is the segment's: its bytes past those of the file are 0.
zeros_at : (n i : ℕ) → slice_index (zeros n) i ≡ 0
unfolding zeros
zeros_at n i =
    elim (cases_lt i n) [
      | inl lt ↦ get_or-replicate n i 0 0 lt
      | inr ge ↦ get_or_past (replicate n 0) i 0 (omega (arith, length_zeros n))
    ]

padded_at : (xs : List ℕ) (n i : ℕ) → slice_index (xs ++ zeros n) i ≡ slice_index xs i
padded_at xs n i =
    elim (cases_lt i (length xs)) [
      | inl lt ↦ get_or_append_left xs (zeros n) 0 i lt
      | inr ge ↦ get_or-append_right xs (zeros n) (length xs) i 0 refl ge ∙ (zeros_at n (i - length xs) ∙ sym (get_or_past xs i 0 ge))
    ]

four_bytes : (f : ℕ → ℕ) (xs : List ℕ) (pc at : ℕ) → f pc ≡ slice_index xs at → f (pc + 1) ≡ slice_index xs (suc at) → f (pc + 1 + 1) ≡ slice_index xs (suc (suc at)) →
    f (pc + 1 + 1 + 1) ≡ slice_index xs (suc (suc (suc at))) → number_of (map f (range_with_len pc 4)) ≡ little_from at 4 xs
unfolding number_of
four_bytes f xs pc at e0 e1 e2 e3 = rw (e0, e1, e2, e3) refl

byte_is : (s : SegmentView) (x i : ℕ) → x - s.address ≡ i → slice_index (segment_area s).bytes (x - s.address) ≡ slice_index s.bytes i
unfolding segment_area
byte_is s x i same = rw same (padded_at s.bytes (s.memory_size - length s.bytes) i)

first_is : (s : SegmentView) → (segment_area s).first ≡ s.address
unfolding segment_area
first_is s = refl

word_is : (pc : ℕ) (s : SegmentView) → s.address ≤ pc → number_in pc 4 (segment_area s) ≡ word_in pc s
unfolding number_in word_in
word_is pc s low =
    let at = pc - s.address in
    rw (first_is s)
    (four_bytes (λ x. slice_index (segment_area s).bytes (x - s.address)) s.bytes pc at (byte_is s pc at refl) (byte_is s (pc + 1) (suc at) (omega arith))
    (byte_is s (pc + 1 + 1) (suc (suc at)) (omega arith)) (byte_is s (pc + 1 + 1 + 1) (suc (suc (suc at))) (omega arith)))

code_low : (pc : ℕ) (s : SegmentView) → holds_code pc s ≡ true → s.address ≤ pc
code_low pc s h = leb-true _ _ (and_parts _ _ (and_parts _ _ h).0).1

fetch_right : (s : SegmentView) → s.execute ≡ true → (segment_area s).fetch ≡ true
unfolding segment_area
fetch_right s e = e

code_admitted : (pc : ℕ) (s : SegmentView) → IsSegment s → holds_code pc s ≡ true → admits Fetch pc 4 (segment_area s) ≡ true
unfolding admits spans has_right
code_admitted pc s is h =
    let front = and_parts _ _ (and_parts _ _ h).0 in
    let end : pc + 4 ≤ s.address + s.memory_size = leb-true _ _ (and_parts _ _ h).1 in
    let size = length_segment s is in
    let low : leb s.address pc ≡ true = front.1 in
    let high : leb (pc + 4) (s.address + length (segment_area s).bytes) ≡ true = le-leb (pc + 4) (s.address + length (segment_area s).bytes) (omega (arith, end, size)) in
    rw (first_is s) (and_from _ _ (and_from _ _ low high) (fetch_right s front.0))

-- A word of code lies in one of the image's segments.
record IsWordIn (pc word : ℕ) (segments : List SegmentView) : Type 0 where
  segment : SegmentView
  is : IsSegment segment
  code : holds_code pc segment ≡ true
  number : word_in pc segment ≡ word
  one : IsOne (segment_area segment) (map segment_area segments)

segment_step : (pc : ℕ) (s : SegmentView) (ss : List SegmentView) (word : ℕ) (b : Bool) → b ≡ holds_code pc s → IsSegment s →
    (option_map (word_in pc) (find (holds_code pc) ss) ≡ Some word → IsWordIn pc word ss) →
    option_map (word_in pc) (cond b (Some s) (find (holds_code pc) ss)) ≡ Some word → IsWordIn pc word (s ∷ ss)
segment_step pc s ss word true holds is rest e = record { segment = s; is = is; code = sym holds; number = cc; one = inl refl }
segment_step pc s ss word false holds is rest e =
    let found = rest e in
    record { segment = found.segment; is = found.is; code = found.code; number = found.number; one = inr found.one }

segment_found : (pc : ℕ) (ss : List SegmentView) (word : ℕ) → AllByRecursion IsSegment ss → option_map (word_in pc) (find (holds_code pc) ss) ≡ Some word → IsWordIn pc word ss
segment_found pc [] word all e = absurd (cc)
segment_found pc (s ∷ ss) word all e = segment_step pc s ss word (holds_code pc s) refl all.0 (λ e. segment_found pc ss word all.1 e) e

word_found : (pc word : ℕ) (image : ImageView) → IsImage image → code_at pc image ≡ Some word → IsWordIn pc word image.segments
unfolding code_at
word_found pc word image is e = segment_found pc image.segments word is.each e

-- Each segment's area is there at the start.
segment_there : (image : ImageView) (params : List Param) (args : List Argument) (area : Area) → IsOne area (map segment_area image.segments) →
    IsOne area (start_memory image params args).areas
unfolding start_memory start_areas
segment_there image params args area one =
    let segments = map segment_area image.segments in
    inserts_one area (buffer_areas params 0 args) (insert_area stack_area (insert_areas segments []))
    (inr (insert_one area stack_area (insert_areas segments []) (inr (inserts_one area segments [] (inl one)))))

pub starts_with_code : StartsWithCode
starts_with_code image params args is valid few eight matching pc word e =
    let found = word_found pc word image is e in
    let s = found.segment in
    fetch_is pc word (start_memory image params args) (segment_area s) (start_placed image params args is valid few eight matching)
    (segment_there image params args (segment_area s) found.one) (code_admitted pc s found.is found.code)
    (word_is pc s (code_low pc s found.code) ∙ found.number)

-- No area may be both written and fetched from, and no address lies in two.
abbrev IsSafe : Area → Type 0
IsSafe area = area.write ≡ true → area.fetch ≡ false

holds_high : (x : ℕ) (area : Area) → holds x area ≡ true → x < end_of area
unfolding holds
holds_high x area h = grind (arith, nat_tests)

pub closed_below : (right : Right) (x from : ℕ) (areas : List Area) → AreInOrder from areas → x < from → is_open right areas x ≡ false
unfolding AreInOrder is_open
closed_below right x from [] order lt = refl
closed_below right x from (area ∷ areas) order lt =
    rw (not_before x area (omega (arith, order.0))) (closed_below right x (end_of area) areas order.1 (omega (arith, order.0)))

never_both : (write fetch : Bool) → (write ≡ true → fetch ≡ false) → (fetch || false) ≡ true → (write || false) ≡ false
never_both true true safe e = absurd (cc (safe refl))
never_both true false safe e = absurd (cc)
never_both false fetch safe e = refl

safe_step : (x : ℕ) (area : Area) (areas : List Area) (b : Bool) → b ≡ holds x area → IsSafe area → AreInOrder (end_of area) areas →
    (is_open Fetch areas x ≡ true → is_open Write areas x ≡ false) → (b && area.fetch || is_open Fetch areas x) ≡ true → (b && area.write || is_open Write areas x) ≡ false
safe_step x area areas true is safe order rest e =
    let high = holds_high x area (sym is) in
    let fetch = closed_below Fetch x (end_of area) areas order high in
    let write = closed_below Write x (end_of area) areas order high in
    rw write (never_both area.write area.fetch safe (rw fetch at e))
safe_step x area areas false is safe order rest e = rest e

safe_from : (x from : ℕ) (areas : List Area) → AreInOrder from areas → AllByRecursion IsSafe areas → is_open Fetch areas x ≡ true → is_open Write areas x ≡ false
unfolding AreInOrder is_open has_right
safe_from x from [] order all e = refl
safe_from x from (area ∷ areas) order all e =
    safe_step x area areas (holds x area) refl all.0 order.1 (λ e. safe_from x (end_of area) areas order.1 all.1 e) e

segments_safe : (ss : List SegmentView) → AllByRecursion IsSegment ss → AllByRecursion IsSafe (map segment_area ss)
unfolding segment_area
segments_safe [] all = tt
segments_safe (s ∷ ss) all = (all.0.write_or_execute, segments_safe ss all.1)

buffers_safe : (params : List Param) (place : ℕ) (args : List Argument) → AllByRecursion IsSafe (buffer_areas params place args)
unfolding buffer_areas buffer_area
buffers_safe params place [] = tt
buffers_safe params place (Arg.None ∷ args) = buffers_safe params (place + 1) args
buffers_safe params place (Arg.Scalar value ∷ args) = buffers_safe params (place + 1) args
buffers_safe params place (Arg.Buffer bytes ∷ args) = ((λ e. refl), buffers_safe params (place + 1) args)

stack_safe : IsSafe stack_area
unfolding stack_area
stack_safe e = refl

start_safe : (image : ImageView) (params : List Param) (args : List Argument) → IsImage image → AllByRecursion IsSafe (start_memory image params args).areas
unfolding start_memory start_areas
start_safe image params args is =
    let segments = map segment_area image.segments in
    let fixed = all_insert IsSafe stack_area (insert_areas segments []) stack_safe (all_inserts IsSafe segments [] (segments_safe image.segments is.each) tt) in
    all_inserts IsSafe (buffer_areas params 0 args) (insert_area stack_area (insert_areas segments [])) (buffers_safe params 0 args) fixed

pub starts_code_safe : StartsCodeSafe
starts_code_safe image params args is valid few eight matching x e =
    safe_from x 0 (start_memory image params args).areas (starts_in_order image params args is valid few eight matching) (start_safe image params args is) e

pub starts_inside : StartsInside
starts_inside image params args is valid few eight matching = (start_placed image params args is valid few eight matching).1
