-- The areas that a run starts with lie apart, and stand in order.
use Rattle.std.proofs.Common.{◌≡◌, ◌⊎◌, inl, inr, ℕ, ◌+◌, ◌-◌, ◌*◌, ◌<◌, ◌≤◌, Bool, true, false, cond, List, [], ◌∷◌, ◌++◌, length, map, take, ltb, Some, arith, sym, ap, refl, rules, ◌∙◌, sum_by, length-append, append_assoc}
use Rattle.std.specs.List.{AllByRecursion, list_all, slice_get, zip}
use Rattle.std.proofs.lemmas.Bool.{and_parts}
use Rattle.std.proofs.lemmas.Bool.Decides.{nat_tests}
use Rattle.std.proofs.lemmas.List.{length-replicate}
use Rattle.std.proofs.lemmas.List.Sums.{sum_by-cons, sum_by-append}
use Rattle.region_mem.specs.Words.{Param, Arg, BUFFERS, BUFFERS_END, MAX_BUFFER_SIZE, PAGE_SIZE, STACK, STACK_SIZE}
use Rattle.region_mem.specs.MatchingLemmas.{NonePasses, nothing_wrong}
use Rattle.region_mem.specs.RoomLemmas.{room_of_valid}
use Rattle.elf_image.specs.Image.{SegmentView, IsSegment, IsApart, AreApart, IsInPlace}
use Rattle.region_mem.specs.Areas.{Area, AreInOrder}
use Rattle.region_mem.specs.Start.{zeros, segment_area, stack_area, buffer_area, buffer_areas, insert_area, insert_areas, start_areas, start_memory}
use Rattle.region_mem.specs.Laws.{StartsInOrder}
use Rattle.region_mem.specs.Parameter.{Argument, AreArguments, is_valid, room_of, is_buffer, address_of, is_wrong_kind, is_wrong_size}

abbrev pub end_of : Area → ℕ
end_of area = area.first + length area.bytes

-- One ends where the other begins, or before, and begins before it.
abbrev pub IsBeside : Area → Area → Type 0
IsBeside a b = ((a.first < b.first) × (end_of a ≤ b.first)) ⊎ ((b.first < a.first) × (end_of b ≤ a.first))

beside_sym : (a b : Area) → IsBeside a b → IsBeside b a
beside_sym a b (inl h) = inr h
beside_sym a b (inr h) = inl h

abbrev pub AreBeside : List Area → Type 0
AreBeside [] = Unit {0}
AreBeside (a ∷ areas) = AllByRecursion (IsBeside a) areas × AreBeside areas

-- An area is put in order.
insert_step : (from : ℕ) (area other : Area) (areas : List Area) (b : Bool) → b ≡ ltb area.first other.first → from ≤ area.first →
    AreInOrder from (other ∷ areas) → IsBeside area other → (end_of other ≤ area.first → AreInOrder (end_of other) (insert_area area areas)) →
    AreInOrder from (cond b (area ∷ other ∷ areas) (other ∷ insert_area area areas))
unfolding AreInOrder
insert_step from area other areas true b low order beside rest = (low, (grind (arith, nat_tests), order.1))
insert_step from area other areas false b low order beside rest =
    let ended : end_of other ≤ area.first = grind (arith, nat_tests) in (order.0, rest ended)

pub insert_in_order : (from : ℕ) (area : Area) (areas : List Area) → from ≤ area.first → AreInOrder from areas → AllByRecursion (IsBeside area) areas → AreInOrder from (insert_area area areas)
unfolding AreInOrder insert_area
insert_in_order from area [] low order beside = (low, tt)
insert_in_order from area (other ∷ areas) low order beside =
    insert_step from area other areas (ltb area.first other.first) refl low order beside.0 (λ ended. insert_in_order (end_of other) area areas ended order.1 beside.1)

-- What holds of the area and of each of the others holds of each after the insertion.
all_insert_step : (P : Area → Type 0) (area other : Area) (areas : List Area) (b : Bool) → P area → P other → AllByRecursion P areas → AllByRecursion P (insert_area area areas) →
    AllByRecursion P (cond b (area ∷ other ∷ areas) (other ∷ insert_area area areas))
all_insert_step P area other areas true here there all rest = (here, (there, all))
all_insert_step P area other areas false here there all rest = (there, rest)

pub all_insert : (P : Area → Type 0) (area : Area) (areas : List Area) → P area → AllByRecursion P areas → AllByRecursion P (insert_area area areas)
unfolding insert_area
all_insert P area [] here all = (here, tt)
all_insert P area (other ∷ areas) here all = all_insert_step P area other areas (ltb area.first other.first) here all.0 all.1 (all_insert P area areas here all.1)

pub all_inserts : (P : Area → Type 0) (others areas : List Area) → AllByRecursion P others → AllByRecursion P areas → AllByRecursion P (insert_areas others areas)
unfolding insert_areas
all_inserts P [] areas here all = all
all_inserts P (area ∷ others) areas here all = all_inserts P others (insert_area area areas) here.1 (all_insert P area areas here.0 all)

-- Each of the one list lies beside each of the other.
abbrev pub AreAllBeside : List Area → List Area → Type 0
AreAllBeside others areas = AllByRecursion (λ other. AllByRecursion (IsBeside other) areas) others

keep_beside : (area : Area) (others areas : List Area) → AllByRecursion (IsBeside area) others → AreAllBeside others areas → AreAllBeside others (insert_area area areas)
keep_beside area [] areas beside all = tt
keep_beside area (other ∷ others) areas beside all =
    (all_insert (IsBeside other) area areas (beside_sym area other beside.0) all.0, keep_beside area others areas beside.1 all.1)

pub inserts_in_order : (others areas : List Area) → AreInOrder 0 areas → AreBeside others → AreAllBeside others areas → AreInOrder 0 (insert_areas others areas)
unfolding insert_areas
inserts_in_order [] areas order beside all = order
inserts_in_order (area ∷ others) areas order beside all =
    inserts_in_order others (insert_area area areas) (insert_in_order 0 area areas (omega arith) order all.0) beside.1 (keep_beside area others areas beside.0 all.1)

-- A segment's area has its size in memory.
pub length_zeros : (n : ℕ) → length (zeros n) ≡ n
unfolding zeros
length_zeros n = search (rules, length-replicate)

pub length_segment : (s : SegmentView) → IsSegment s → length (segment_area s).bytes ≡ s.memory_size
unfolding segment_area
length_segment s is = omega (arith, is.file_part, length-append s.bytes (zeros (s.memory_size - length s.bytes)), length_zeros (s.memory_size - length s.bytes))

segments_beside_step : (s t : SegmentView) → IsSegment s → IsSegment t → IsApart s t → IsBeside (segment_area s) (segment_area t)
unfolding segment_area
segments_beside_step s t is it (inl h) = inl (omega (arith, is.not_empty), omega (arith, length_segment s is))
segments_beside_step s t is it (inr h) = inr (omega (arith, it.not_empty), omega (arith, length_segment t it))

segment_beside : (s : SegmentView) (ss : List SegmentView) → IsSegment s → AllByRecursion IsSegment ss → AllByRecursion (IsApart s) ss → AllByRecursion (IsBeside (segment_area s)) (map segment_area ss)
segment_beside s [] is all apart = tt
segment_beside s (t ∷ ss) is all apart = (segments_beside_step s t is all.0 apart.0, segment_beside s ss is all.1 apart.1)

pub segments_beside : (ss : List SegmentView) → AllByRecursion IsSegment ss → AreApart ss → AreBeside (map segment_area ss)
segments_beside [] all apart = tt
segments_beside (s ∷ ss) all apart = (segment_beside s ss all.0 all.1 apart.0, segments_beside ss all.1 apart.1)

-- An area lies between the two parts of memory that are for segments.
abbrev pub IsBetweenSegments : Area → Type 0
IsBetweenSegments area = (STACK ≤ area.first) × (end_of area < BUFFERS_END)

between_beside_step : (area : Area) (s : SegmentView) → IsBetweenSegments area → IsSegment s → IsInPlace s.address s.memory_size → IsBeside area (segment_area s)
unfolding segment_area
between_beside_step area s between is (inl place) = inr (omega (arith, place.1, between.0, is.not_empty), omega (arith, place.1, between.0, length_segment s is))
between_beside_step area s between is (inr place) = inl (omega (arith, place.0, between.1), omega (arith, place.0, between.1))

pub between_beside : (area : Area) (ss : List SegmentView) → IsBetweenSegments area → AllByRecursion IsSegment ss → AllByRecursion (IsBeside area) (map segment_area ss)
between_beside area [] between all = tt
between_beside area (s ∷ ss) between all = (between_beside_step area s between all.0 all.0.in_place, between_beside area ss between all.1)

-- Areas that rise: each begins past the end of the one before it, from low on, and ends at high or below.
abbrev pub IsRising : ℕ → ℕ → List Area → Type 0
IsRising low high [] = Unit {0}
IsRising low high (a ∷ areas) = (low ≤ a.first) × (end_of a ≤ high) × IsRising (end_of a + 1) high areas

rising_from : (low below high : ℕ) (areas : List Area) → below ≤ low → IsRising low high areas → IsRising below high areas
rising_from low below high [] le rising = tt
rising_from low below high (a ∷ areas) le rising = (omega (arith, rising.0), rising.1, rising.2)

rising_above : (a : Area) (low high : ℕ) (areas : List Area) → end_of a < low → IsRising low high areas → AllByRecursion (IsBeside a) areas
rising_above a low high [] lt rising = tt
rising_above a low high (b ∷ areas) lt rising =
    (inl (omega (arith, rising.0), omega (arith, rising.0)), rising_above a (end_of b + 1) high areas (omega (arith, rising.0)) rising.2)

rising_beside : (low high : ℕ) (areas : List Area) → IsRising low high areas → AreBeside areas
rising_beside low high [] rising = tt
rising_beside low high (a ∷ areas) rising = (rising_above a (end_of a + 1) high areas (omega arith) rising.2, rising_beside (end_of a + 1) high areas rising.2)

rising_between : (low high : ℕ) (areas : List Area) → STACK ≤ low → high < BUFFERS_END → IsRising low high areas → AllByRecursion IsBetweenSegments areas
rising_between low high [] above below rising = tt
rising_between low high (a ∷ areas) above below rising =
    ((omega (arith, rising.0), omega (arith, rising.1)), rising_between (end_of a + 1) high areas (omega (arith, rising.0)) below rising.2)

-- Where a buffer lies.
pub at_middle : (done todo : List Param) (param : Param) → slice_get (done ++ param ∷ todo) (length done) ≡ Some param
at_middle [] todo param = refl
at_middle (other ∷ done) todo param = at_middle done todo param

take_middle : (done rest : List Param) → take (length done) (done ++ rest) ≡ done
take_middle [] rest = refl
take_middle (other ∷ done) rest = ap (λ xs. other ∷ xs) (take_middle done rest)

buffer_first : (done todo : List Param) (param : Param) (bytes : List ℕ) → is_buffer param ≡ true →
    (buffer_area (done ++ param ∷ todo) (length done) bytes).first ≡ BUFFERS + sum_by room_of done
unfolding buffer_area address_of
buffer_first done todo param bytes is = rw (at_middle done todo param, is, take_middle done (param ∷ todo)) refl

buffer_room : (param : Param) (bytes : List ℕ) → is_wrong_kind (param, Arg.Buffer bytes) ≡ false → is_wrong_size (param, Arg.Buffer bytes) ≡ false →
    (is_buffer param ≡ true) × (length bytes + PAGE_SIZE ≤ room_of param)
unfolding is_wrong_kind is_wrong_size is_buffer room_of
buffer_room Param.None bytes kind size = absurd (cc)
buffer_room (Param.Scalar lo hi) bytes kind size = absurd (cc)
buffer_room (Param.Buffer mode n) bytes kind size = (refl, grind (arith, nat_tests))

rising_step : (param : Param) (arg : Argument) (args : List Argument) (params : List Param) (place low high : ℕ) →
    is_wrong_kind (param, arg) ≡ false → is_wrong_size (param, arg) ≡ false →
    ((bytes : List ℕ) → is_buffer param ≡ true → (buffer_area params place bytes).first ≡ low) → low + room_of param ≤ high →
    IsRising (low + room_of param) high (buffer_areas params (place + 1) args) → IsRising low high (buffer_areas params place (arg ∷ args))
unfolding buffer_areas buffer_area
rising_step param Arg.None args params place low high kind size first below next = rising_from _ _ _ _ (omega arith) next
rising_step param (Arg.Scalar value) args params place low high kind size first below next = rising_from _ _ _ _ (omega arith) next
rising_step param (Arg.Buffer bytes) args params place low high kind size first below next =
    let room = buffer_room param bytes kind size in
    let begins = first bytes room.0 in
    (omega (arith, begins), omega (arith, begins, room.1), rising_from _ _ _ _ (omega (arith, begins, room.1)) next)

rising : (done todo : List Param) (args : List Argument) (params : List Param) (place low high : ℕ) → params ≡ done ++ todo → place ≡ length done →
    low ≡ BUFFERS + sum_by room_of done → high ≡ low + sum_by room_of todo → length args ≤ length todo →
    NonePasses is_wrong_kind (zip todo args) → NonePasses is_wrong_size (zip todo args) → IsRising low high (buffer_areas params place args)
unfolding buffer_areas
rising done todo [] params place low high whole at lows highs few kinds sizes = tt
rising done [] (arg ∷ args) params place low high whole at lows highs few kinds sizes = absurd (omega arith)
rising done (param ∷ todo) (arg ∷ args) params place low high whole at lows highs few kinds sizes =
    let less : length args ≤ length todo = omega arith in
    let next = rising (done ++ param ∷ []) todo args params (place + 1) (low + room_of param) high
    (whole ∙ sym (append_assoc done (param ∷ []) todo)) (omega (arith, at, length-append done (param ∷ [])))
    (omega (arith, lows, sum_by-append room_of done (param ∷ []), sum_by-cons room_of param []))
    (omega (arith, highs, sum_by-cons room_of param todo)) less kinds.1 sizes.1 in
    rising_step param arg args params place low high kinds.0 sizes.0
    (λ bytes is. rw (whole, at, lows) (buffer_first done todo param bytes is))
    (omega (arith, highs, sum_by-cons room_of param todo)) next

sum_by_all : (params : List Param) → list_all is_valid params ≡ true → sum_by room_of params ≤ length params * (MAX_BUFFER_SIZE + PAGE_SIZE)
sum_by_all [] h = omega arith
sum_by_all (param ∷ params) h =
    omega (arith, sum_by-cons room_of param params, room_of_valid param (and_parts _ _ h).0, sum_by_all params (and_parts _ _ h).1)

-- The areas of the buffers rise, and end below the buffers' end.
pub buffers_rise : (params : List Param) (args : List Argument) → list_all is_valid params ≡ true → length params ≡ 8 → length args ≡ 8 → AreArguments params args →
    IsRising BUFFERS (BUFFERS + sum_by room_of params) (buffer_areas params 0 args) × (BUFFERS + sum_by room_of params < BUFFERS_END)
buffers_rise params args valid eight places matching =
    let wrong = nothing_wrong params args matching in
    (rising [] params args params 0 BUFFERS (BUFFERS + sum_by room_of params) refl refl (omega arith) refl (omega arith) wrong.0 wrong.1, omega (arith, sum_by_all params valid))

stack_between : IsBetweenSegments stack_area
unfolding stack_area
stack_between = (omega arith, omega (arith, length_zeros STACK_SIZE))

stack_beside : (low high : ℕ) (areas : List Area) → BUFFERS ≤ low → IsRising low high areas → AllByRecursion (λ a. IsBeside a stack_area) areas
unfolding stack_area
stack_beside low high [] le rising = tt
stack_beside low high (a ∷ areas) le rising =
    (inr (omega (arith, rising.0), omega (arith, rising.0, length_zeros STACK_SIZE)), stack_beside (end_of a + 1) high areas (omega (arith, rising.0)) rising.2)

-- Each of the areas between the segments lies beside each segment.
all_between_beside : (areas : List Area) (ss : List SegmentView) → AllByRecursion IsBetweenSegments areas → AllByRecursion IsSegment ss → AreAllBeside areas (map segment_area ss)
all_between_beside [] ss between all = tt
all_between_beside (a ∷ areas) ss between all = (between_beside a ss between.0 all, all_between_beside areas ss between.1 all)

nothing_beside : (others : List Area) → AreAllBeside others []
nothing_beside [] = tt
nothing_beside (a ∷ others) = (tt, nothing_beside others)

-- Beside each segment, they lie beside each that was inserted.
beside_inserted : (others segments : List Area) → AreAllBeside others segments → AllByRecursion (λ o. IsBeside o stack_area) others →
    AreAllBeside others (insert_area stack_area (insert_areas segments []))
beside_inserted [] segments all stack = tt
beside_inserted (o ∷ others) segments all stack =
    (all_insert (IsBeside o) stack_area (insert_areas segments []) stack.0 (all_inserts (IsBeside o) segments [] all.0 tt), beside_inserted others segments all.1 stack.1)

pub starts_in_order : StartsInOrder
unfolding start_memory start_areas AreInOrder
starts_in_order image params args is valid eight places matching =
    let segments = map segment_area image.segments in
    let high : ℕ = BUFFERS + sum_by room_of params in
    let buffers = buffers_rise params args valid eight places matching in
    let between = rising_between BUFFERS high (buffer_areas params 0 args) (omega arith) buffers.1 buffers.0 in
    let base = inserts_in_order segments [] tt (segments_beside image.segments is.each is.apart) (nothing_beside segments) in
    let with_stack = insert_in_order 0 stack_area (insert_areas segments []) (omega arith) base
    (all_inserts (IsBeside stack_area) segments [] (between_beside stack_area image.segments stack_between is.each) tt) in
    inserts_in_order (buffer_areas params 0 args) (insert_area stack_area (insert_areas segments [])) with_stack
    (rising_beside BUFFERS high (buffer_areas params 0 args) buffers.0)
    (beside_inserted (buffer_areas params 0 args) segments (all_between_beside (buffer_areas params 0 args) image.segments between is.each)
    (stack_beside BUFFERS high (buffer_areas params 0 args) (omega arith) buffers.0))
