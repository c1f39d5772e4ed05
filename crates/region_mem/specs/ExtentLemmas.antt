-- Where areas lie, whatever is stored, and that none lies above the segments.
use Rattle.std.proofs.Common.{◌≡◌, inl, inr, ℕ, ◌+◌, ◌-◌, ◌≤◌, Bool, true, false, ◌&&◌, cond, subst, List, [], ◌∷◌, length, map, Some, None, arith, ap, refl, ◌∙◌, sum_by, set, length-set}
use Rattle.std.specs.List.{AllByRecursion, list_all}
use Rattle.std.proofs.lemmas.Bool.Decides.{nat_tests}
use Rattle.region_mem.specs.Words.{Param, Right, Write, Fetch, BUFFERS, STACK_SIZE, HIGH_SEGMENTS_END}
use Rattle.region_mem.specs.ApartLemmas.{IsRising, starts_in_order, end_of, all_insert, all_inserts, buffers_rise, length_zeros, length_segment}
use Rattle.elf_image.specs.Image.{SegmentView, IsSegment, IsInPlace, ImageView, IsImage}
use Rattle.region_mem.specs.Areas.{Area, AreInOrder, AreInside, ArePlaced, holds, is_open, is_open_from, with_byte, with_bytes, bytes_of, with_number}
use Rattle.region_mem.specs.Memory.{Memory, is_permitted, store_of, fetch_of}
use Rattle.region_mem.specs.Start.{segment_area, stack_area, buffer_areas, insert_area, insert_areas, start_areas, start_memory}
use Rattle.region_mem.specs.Laws.{Extent, extent_of, StoresKeepExtents, FetchesNothingAbove}
use Rattle.region_mem.specs.Parameter.{Argument, AreArguments, is_valid, room_of}

set_keeps : (area : Area) (i byte : ℕ) → extent_of (record area { bytes = set area.bytes i byte }) ≡ extent_of area
unfolding extent_of
set_keeps area i byte = rw (length-set area.bytes i byte) refl

byte_step : (address byte : ℕ) (area : Area) (areas : List Area) (b : Bool) → map extent_of (with_byte address byte areas) ≡ map extent_of areas →
    map extent_of (cond b (record area { bytes = set area.bytes (address - area.first) byte } ∷ areas) (area ∷ with_byte address byte areas)) ≡ map extent_of (area ∷ areas)
byte_step address byte area areas true rest = ap (λ e. e ∷ map extent_of areas) (set_keeps area (address - area.first) byte)
byte_step address byte area areas false rest = ap (λ es. extent_of area ∷ es) rest

pub byte_keeps : (address byte : ℕ) (areas : List Area) → map extent_of (with_byte address byte areas) ≡ map extent_of areas
unfolding with_byte
byte_keeps address byte [] = refl
byte_keeps address byte (area ∷ areas) = byte_step address byte area areas (holds address area) (byte_keeps address byte areas)

bytes_keep : (address : ℕ) (bytes : List ℕ) (areas : List Area) → map extent_of (with_bytes address bytes areas) ≡ map extent_of areas
unfolding with_bytes
bytes_keep address [] areas = refl
bytes_keep address (byte ∷ bytes) areas =
    bytes_keep (address + 1) bytes (with_byte address byte areas) ∙ byte_keeps address byte areas

pub number_keeps : (address n value : ℕ) (areas : List Area) → map extent_of (with_number address n value areas) ≡ map extent_of areas
unfolding with_number
number_keeps address n value areas = bytes_keep address (bytes_of n value) areas

-- Areas of the same extents are placed alike.
subst_order : (areas : List Area) (m n : ℕ) → m ≡ n → AreInOrder m areas → AreInOrder n areas
subst_order areas m n same order = let P : ℕ → Type 0 = λ k. AreInOrder k areas in subst P same order

pub order_of : (from : ℕ) (areas others : List Area) → map extent_of areas ≡ map extent_of others → AreInOrder from others → AreInOrder from areas
unfolding AreInOrder extent_of
order_of from [] others same order = tt
order_of from (a ∷ areas) [] same order = absurd (cc)
order_of from (a ∷ areas) (b ∷ others) same order =
    let heads : extent_of a ≡ extent_of b = cc in
    let first : a.first ≡ b.first = ap (λ e. e.first) heads in
    let size : length a.bytes ≡ length b.bytes = ap (λ e. e.size) heads in
    let rest : map extent_of areas ≡ map extent_of others = cc in
    (omega (arith, order.0, first), order_of (end_of a) areas others rest (subst_order others (end_of b) (end_of a) (omega (arith, first, size)) order.1))

pub inside_of : (areas others : List Area) → map extent_of areas ≡ map extent_of others → AreInside others → AreInside areas
unfolding AreInside extent_of
inside_of [] others same inside = tt
inside_of (a ∷ areas) [] same inside = absurd (cc)
inside_of (a ∷ areas) (b ∷ others) same inside =
    let heads : extent_of a ≡ extent_of b = cc in
    let first : a.first ≡ b.first = ap (λ e. e.first) heads in
    let size : length a.bytes ≡ length b.bytes = ap (λ e. e.size) heads in
    let rest : map extent_of areas ≡ map extent_of others = cc in
    (omega (arith, inside.0, first, size), inside_of areas others rest inside.1)

pub number_order : (address n value : ℕ) (areas : List Area) → AreInOrder 0 areas → AreInOrder 0 (with_number address n value areas)
number_order address n value areas order = order_of 0 _ areas (number_keeps address n value areas) order

pub number_inside : (address n value : ℕ) (areas : List Area) → AreInside areas → AreInside (with_number address n value areas)
number_inside address n value areas inside = inside_of _ areas (number_keeps address n value areas) inside

keep_step : (address n value : ℕ) (memory stored : Memory) (b : Bool) → cond b (Some (record memory { areas = with_number address n value memory.areas })) None ≡ Some stored →
    (map extent_of stored.areas ≡ map extent_of memory.areas) × (stored.passed ≡ memory.passed)
keep_step address n value memory stored false e = absurd (cc)
keep_step address n value memory stored true e =
    let same : record memory { areas = with_number address n value memory.areas } ≡ stored = cc in
    (rw (← same) (number_keeps address n value memory.areas), rw (← same) refl)

pub stores_keep_extents : StoresKeepExtents
unfolding store_of
stores_keep_extents address n value memory stored e =
    keep_step address n value memory stored (is_permitted Write address n memory) e

-- No area lies above the segments.
abbrev pub EndsBelow : Area → Type 0
EndsBelow area = end_of area ≤ HIGH_SEGMENTS_END

abbrev pub ExtentEndsBelow : Extent → Type 0
ExtentEndsBelow e = e.first + e.size ≤ HIGH_SEGMENTS_END

to_extents : (areas : List Area) → AllByRecursion EndsBelow areas → AllByRecursion ExtentEndsBelow (map extent_of areas)
unfolding extent_of
to_extents [] all = tt
to_extents (area ∷ areas) all = (all.0, to_extents areas all.1)

from_extents : (areas : List Area) → AllByRecursion ExtentEndsBelow (map extent_of areas) → AllByRecursion EndsBelow areas
unfolding extent_of
from_extents [] all = tt
from_extents (area ∷ areas) all = (all.0, from_extents areas all.1)

segment_ends_step : (s : SegmentView) → IsSegment s → IsInPlace s.address s.memory_size → EndsBelow (segment_area s)
unfolding segment_area
segment_ends_step s is (inl place) = omega (arith, place.1, length_segment s is)
segment_ends_step s is (inr place) = omega (arith, place.1, length_segment s is)

segments_end : (ss : List SegmentView) → AllByRecursion IsSegment ss → AllByRecursion EndsBelow (map segment_area ss)
segments_end [] all = tt
segments_end (s ∷ ss) all = (segment_ends_step s all.0 all.0.in_place, segments_end ss all.1)

rising_end : (low high : ℕ) (areas : List Area) → high ≤ HIGH_SEGMENTS_END → IsRising low high areas → AllByRecursion EndsBelow areas
rising_end low high [] le rising = tt
rising_end low high (a ∷ areas) le rising = (omega (arith, rising.1), rising_end (end_of a + 1) high areas le rising.2)

stack_ends : EndsBelow stack_area
unfolding stack_area
stack_ends = omega (arith, length_zeros STACK_SIZE)

-- None of them is open there.
holds_none : (address : ℕ) (area : Area) → HIGH_SEGMENTS_END ≤ address → EndsBelow area → holds address area ≡ false
unfolding holds
holds_none address area above below = grind (arith, nat_tests)

open_none : (right : Right) (address : ℕ) (areas : List Area) → HIGH_SEGMENTS_END ≤ address → AllByRecursion EndsBelow areas → is_open right areas address ≡ false
unfolding is_open
open_none right address [] above all = refl
open_none right address (area ∷ areas) above all =
    rw (holds_none address area above all.0) (open_none right address areas above all.1)

and_none : (a b c : Bool) → b ≡ false → (a && (b && c)) ≡ false
and_none true b c e = rw e refl
and_none false b c e = refl

fetch_none : (pc : ℕ) (memory : Memory) → HIGH_SEGMENTS_END ≤ pc → AllByRecursion EndsBelow memory.areas → fetch_of pc memory ≡ None
unfolding fetch_of is_permitted is_open_from
fetch_none pc memory above all = rw (and_none _ _ _ (open_none Fetch pc memory.areas above all)) refl

start_ends : (image : ImageView) (params : List Param) (args : List Argument) → IsImage image → list_all is_valid params ≡ true →
    length params ≡ 8 → length args ≡ 8 → AreArguments params args → AllByRecursion EndsBelow (start_memory image params args).areas
unfolding start_memory start_areas
start_ends image params args is valid few eight matching =
    let segments = map segment_area image.segments in
    let high : ℕ = BUFFERS + sum_by room_of params in
    let buffers = buffers_rise params args valid few eight matching in
    let bound : high ≤ HIGH_SEGMENTS_END = omega (arith, buffers.1) in
    let fixed = all_insert EndsBelow stack_area (insert_areas segments []) stack_ends (all_inserts EndsBelow segments [] (segments_end image.segments is.each) tt) in
    all_inserts EndsBelow (buffer_areas params 0 args) (insert_area stack_area (insert_areas segments [])) (rising_end BUFFERS high (buffer_areas params 0 args) bound buffers.0) fixed

below_inside : (areas : List Area) → AllByRecursion EndsBelow areas → AreInside areas
unfolding AreInside
below_inside [] all = tt
below_inside (area ∷ areas) all = (omega (arith, all.0), below_inside areas all.1)

pub start_placed : (image : ImageView) (params : List Param) (args : List Argument) → IsImage image → list_all is_valid params ≡ true →
    length params ≡ 8 → length args ≡ 8 → AreArguments params args → ArePlaced (start_memory image params args).areas
start_placed image params args is valid few eight matching =
    (starts_in_order image params args is valid few eight matching, below_inside _ (start_ends image params args is valid few eight matching))

pub fetches_nothing_above : FetchesNothingAbove
fetches_nothing_above image params args is valid few eight matching memory same pc above =
    let here : AllByRecursion ExtentEndsBelow (map extent_of memory.areas) = rw (same.0) (to_extents _ (start_ends image params args is valid few eight matching)) in
    fetch_none pc memory above (from_extents memory.areas here)
