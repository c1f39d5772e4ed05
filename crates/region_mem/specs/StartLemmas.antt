-- What the memory that a run starts with gives back.
use Rattle.std.proofs.Common.{◌≡◌, inl, inr, ℕ, ◌+◌, ◌<◌, ◌≤◌, Bool, true, false, cond, List, [], ◌∷◌, ◌++◌, length, map, filter, ltb, arith, sym, ap, refl, ◌∙◌, sum_by, append_assoc, append-nil}
use Rattle.std.specs.List.{AllByRecursion, list_all}
use Rattle.std.proofs.lemmas.Bool.Decides.{nat_tests}
use Rattle.region_mem.specs.Words.{Param, Arg, BUFFERS, BUFFERS_END}
use Rattle.region_mem.specs.ApartLemmas.{IsRising, end_of, all_insert, all_inserts, buffers_rise}
use Rattle.elf_image.specs.Image.{SegmentView, IsSegment, IsInPlace, ImageView, IsImage}
use Rattle.region_mem.specs.Areas.{Area}
use Rattle.region_mem.specs.Memory.{is_buffer_area, arg_with, left_after, args_with, args_of}
use Rattle.region_mem.specs.Start.{segment_area, stack_area, buffer_area, buffer_areas, insert_area, insert_areas, passed_of, start_areas, start_memory}
use Rattle.region_mem.specs.Laws.{GivesArgumentsBack}
use Rattle.region_mem.specs.Parameter.{Argument, AreArguments, is_valid, room_of}

-- Areas by their first addresses.
abbrev pub AreSorted : List Area → Type 0
AreSorted [] = Unit {0}
AreSorted (a ∷ areas) = AllByRecursion (λ b. a.first ≤ b.first) areas × AreSorted areas

from_below : (low high : ℕ) (areas : List Area) → low ≤ high → AllByRecursion (λ b. high ≤ b.first) areas → AllByRecursion (λ b. low ≤ b.first) areas
from_below low high [] le all = tt
from_below low high (a ∷ areas) le all = (omega (arith, all.0), from_below low high areas le all.1)

sorted_step : (a b : Area) (areas : List Area) (t : Bool) → t ≡ ltb a.first b.first → AreSorted (b ∷ areas) → AreSorted (insert_area a areas) →
    AreSorted (cond t (a ∷ b ∷ areas) (b ∷ insert_area a areas))
sorted_step a b areas true low sorted rest =
    let le : a.first ≤ b.first = grind (arith, nat_tests) in ((le, from_below a.first b.first areas le sorted.0), sorted)
sorted_step a b areas false low sorted rest =
    let le : b.first ≤ a.first = grind (arith, nat_tests) in (all_insert (λ c. b.first ≤ c.first) a areas le sorted.0, rest)

insert_sorted : (a : Area) (areas : List Area) → AreSorted areas → AreSorted (insert_area a areas)
unfolding insert_area
insert_sorted a [] sorted = (tt, tt)
insert_sorted a (b ∷ areas) sorted = sorted_step a b areas (ltb a.first b.first) refl sorted (insert_sorted a areas sorted.1)

inserts_sorted : (others areas : List Area) → AreSorted areas → AreSorted (insert_areas others areas)
unfolding insert_areas
inserts_sorted [] areas sorted = sorted
inserts_sorted (a ∷ others) areas sorted = inserts_sorted others (insert_area a areas) (insert_sorted a areas sorted)

-- The areas that are buffers.
abbrev pub IsNone : Area → Type 0
IsNone a = is_buffer_area a ≡ false

filter_step : (a : Area) (areas found : List Area) (t : Bool) → t ≡ is_buffer_area a → filter is_buffer_area areas ≡ found →
    filter is_buffer_area (a ∷ areas) ≡ cond t (a ∷ found) found
filter_step a areas found t is rest = rw (is, ← rest) refl

none_filtered : (areas : List Area) → AllByRecursion IsNone areas → filter is_buffer_area areas ≡ []
none_filtered [] all = refl
none_filtered (a ∷ areas) all = filter_step a areas [] false (sym all.0) (none_filtered areas all.1)

-- A buffer's area begins below this address.
abbrev pub IsBelow : ℕ → Area → Type 0
IsBelow high a = is_buffer_area a ≡ true → a.first < high

none_above : (high : ℕ) (areas : List Area) → AllByRecursion (IsBelow high) areas → AllByRecursion (λ b. high ≤ b.first) areas → AllByRecursion IsNone areas
none_above high [] below above = tt
none_above high (a ∷ areas) below above =
    let here : (t : Bool) → t ≡ is_buffer_area a → (t ≡ true → a.first < high) → t ≡ false = λ t. elim t as (λ t. t ≡ is_buffer_area a → (t ≡ true → a.first < high) → t ≡ false) [
      | true ↦ λ e lt. absurd (omega (arith, lt refl, above.0))
      | false ↦ λ e lt. refl
    ] in
    (here (is_buffer_area a) refl below.0, none_above high areas below.1 above.1)

-- A buffer's area that begins above those of the others comes last among them.
last_step : (a b : Area) (areas : List Area) (t : Bool) → t ≡ ltb a.first b.first → is_buffer_area a ≡ true → AreSorted (b ∷ areas) →
    AllByRecursion (IsBelow a.first) (b ∷ areas) → filter is_buffer_area (insert_area a areas) ≡ filter is_buffer_area areas ++ a ∷ [] →
    filter is_buffer_area (cond t (a ∷ b ∷ areas) (b ∷ insert_area a areas)) ≡ filter is_buffer_area (b ∷ areas) ++ a ∷ []
last_step a b areas true low is sorted below rest =
    let le : a.first ≤ b.first = grind (arith, nat_tests) in
    let none = none_filtered (b ∷ areas) (none_above a.first (b ∷ areas) below (le, from_below a.first b.first areas le sorted.0)) in
    filter_step a (b ∷ areas) [] true (sym is) none ∙ sym (ap (λ xs. xs ++ a ∷ []) none)
last_step a b areas false low is sorted below rest =
    let here : (t : Bool) → t ≡ is_buffer_area b → filter is_buffer_area (b ∷ insert_area a areas) ≡ filter is_buffer_area (b ∷ areas) ++ a ∷ [] =
    λ t. elim t as (λ t. t ≡ is_buffer_area b → filter is_buffer_area (b ∷ insert_area a areas) ≡ filter is_buffer_area (b ∷ areas) ++ a ∷ []) [
      | true ↦ λ e. filter_step b (insert_area a areas) _ true e rest ∙ sym (ap (λ xs. xs ++ a ∷ []) (filter_step b areas _ true e refl))
      | false ↦ λ e. filter_step b (insert_area a areas) _ false e rest ∙ sym (ap (λ xs. xs ++ a ∷ []) (filter_step b areas _ false e refl))
    ] in
    here (is_buffer_area b) refl

insert_last : (a : Area) (areas : List Area) → is_buffer_area a ≡ true → AreSorted areas → AllByRecursion (IsBelow a.first) areas →
    filter is_buffer_area (insert_area a areas) ≡ filter is_buffer_area areas ++ a ∷ []
unfolding insert_area
insert_last a [] is sorted below = filter_step a [] [] true (sym is) refl
insert_last a (b ∷ areas) is sorted below =
    last_step a b areas (ltb a.first b.first) refl is sorted below (insert_last a areas is sorted.1 below.1)

below_more : (low high : ℕ) (areas : List Area) → low ≤ high → AllByRecursion (IsBelow low) areas → AllByRecursion (IsBelow high) areas
below_more low high [] le all = tt
below_more low high (a ∷ areas) le all = ((λ is. omega (arith, all.0 is)), below_more low high areas le all.1)

is_buffer_from : (a : Area) → BUFFERS ≤ a.first → a.first < BUFFERS_END → is_buffer_area a ≡ true
unfolding is_buffer_area
is_buffer_from a low high = grind (arith, nat_tests)

-- Buffers that rise come after those that were there.
inserts_last : (low high : ℕ) (others areas : List Area) → BUFFERS ≤ low → high < BUFFERS_END → IsRising low high others → AreSorted areas →
    AllByRecursion (IsBelow low) areas → filter is_buffer_area (insert_areas others areas) ≡ filter is_buffer_area areas ++ others
unfolding insert_areas
inserts_last low high [] areas above below rising sorted less = sym (append-nil _)
inserts_last low high (a ∷ others) areas above below rising sorted less =
    let is = is_buffer_from a (omega (arith, rising.0)) (omega (arith, rising.1)) in
    let under = below_more low a.first areas rising.0 less in
    let past = all_insert (IsBelow (end_of a + 1)) a areas (λ is. omega arith) (below_more a.first (end_of a + 1) areas (omega arith) under) in
    inserts_last (end_of a + 1) high others (insert_area a areas) (omega (arith, rising.0)) below rising.2 (insert_sorted a areas sorted) past
    ∙ (ap (λ xs. xs ++ others) (insert_last a areas is sorted under) ∙ append_assoc (filter is_buffer_area areas) (a ∷ []) others)

-- Neither the segments nor the stack are buffers.
none_step : (s : SegmentView) → IsSegment s → IsInPlace s.address s.memory_size → IsNone (segment_area s)
unfolding is_buffer_area segment_area
none_step s is (inl place) = grind (arith, nat_tests, place.1, is.not_empty)
none_step s is (inr place) = grind (arith, nat_tests, place.0)

none_segments : (ss : List SegmentView) → AllByRecursion IsSegment ss → AllByRecursion IsNone (map segment_area ss)
none_segments [] all = tt
none_segments (s ∷ ss) all = (none_step s all.0 all.0.in_place, none_segments ss all.1)

none_stack : IsNone stack_area
unfolding is_buffer_area stack_area
none_stack = refl

none_below : (high : ℕ) (areas : List Area) → AllByRecursion IsNone areas → AllByRecursion (IsBelow high) areas
none_below high [] all = tt
none_below high (a ∷ areas) all = ((λ is. absurd (cc (is, all.0))), none_below high areas all.1)

-- Each place gets back what it was passed.
args_back : (params : List Param) (place : ℕ) (args : List Argument) → args_with (map passed_of args) (buffer_areas params place args) ≡ args
unfolding args_with arg_with left_after passed_of buffer_areas buffer_area
args_back params place [] = refl
args_back params place (Arg.None ∷ args) = ap (λ xs. Arg.None ∷ xs) (args_back params (place + 1) args)
args_back params place (Arg.Scalar value ∷ args) = ap (λ xs. Arg.Scalar value ∷ xs) (args_back params (place + 1) args)
args_back params place (Arg.Buffer bytes ∷ args) = ap (λ xs. Arg.Buffer bytes ∷ xs) (args_back params (place + 1) args)

-- The buffers' areas are those that are filtered out of all.
pub buffers_of_start : (image : ImageView) (params : List Param) (args : List Argument) → IsImage image → list_all is_valid params ≡ true →
    length params ≡ 8 → length args ≡ 8 → AreArguments params args →
    filter is_buffer_area (start_memory image params args).areas ≡ buffer_areas params 0 args
unfolding start_memory start_areas
buffers_of_start image params args is valid eight places matching =
    let segments = map segment_area image.segments in
    let high : ℕ = BUFFERS + sum_by room_of params in
    let buffers = buffers_rise params args valid eight places matching in
    let base = insert_area stack_area (insert_areas segments []) in
    let none = all_insert IsNone stack_area (insert_areas segments []) none_stack (all_inserts IsNone segments [] (none_segments image.segments is.each) tt) in
    let found = inserts_last BUFFERS high (buffer_areas params 0 args) base (omega arith) buffers.1 buffers.0
    (insert_sorted stack_area (insert_areas segments []) (inserts_sorted segments [] tt)) (none_below BUFFERS base none) in
    rw (found, none_filtered base none) refl

pub gives_arguments_back : GivesArgumentsBack
unfolding args_of start_memory
gives_arguments_back image params args is valid eight places matching =
    rw (buffers_of_start image params args is valid eight places matching) (args_back params 0 args)
