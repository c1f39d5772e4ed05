-- Accesses in a window: each is permitted, and stores end to end fill it.
use Rattle.std.proofs.Common.{◌≡◌, inl, inr, ℕ, zero, suc, ◌+◌, ◌-◌, ◌^◌, ◌<◌, ◌≤◌, Bool, true, false, cond, List, [], ◌∷◌, length, take, drop, map, find, Option, Some, None, is_some, slice_index, get_or, arith, sym, ap, refl, ◌∙◌}
use Rattle.std.specs.List.{position_or_len, range_with_len, slice_get}
use Rattle.std.specs.Option.{option_map}
use Rattle.std.proofs.lemmas.Bool.{and_from, le-leb, cases_lt}
use Rattle.std.proofs.lemmas.List.{length-take-le, length-drop, drop_more, drop-drop, drop-take, take-take}
use Rattle.std.proofs.lemmas.List.Folds.{find_at}
use Rattle.std.proofs.lemmas.List.Sums.{passes_at_first}
use Rattle.std.proofs.lemmas.Option.{slice_get-get_or, slice_get_past}
use Rattle.region_mem.specs.Words.{Right, Read, Write}
use Rattle.region_mem.specs.Areas.{Area, nothing, AreInOrder, AreInside, ArePlaced, holds, spans, admits, is_open_from, number_of, number_at, number_in, part_of, window_in}
use Rattle.region_mem.specs.Memory.{Memory, is_permitted, load_of, window_of, has_window}
use Rattle.region_mem.specs.Laws.{WindowsToRead, LoadsInWindows, WindowsToWrite, StoresInWindows}
use Rattle.region_mem.specs.ApartLemmas.{end_of}
use Rattle.region_mem.specs.SearchLemmas.{same_place}
use Rattle.region_mem.specs.AccessLemmas.{admits_spans, admits_right, spans_from, spans_to, holds_from, open_in_one, number_in_one}

-- where the area of a window stands
abbrev pub place_in : Right → ℕ → ℕ → List Area → ℕ
place_in right address n areas = position_or_len (admits right address n) areas

abbrev pub area_in : Right → ℕ → ℕ → List Area → Area
area_in right address n areas = get_or areas (place_in right address n areas) nothing

no_window : (right : Right) (address n : ℕ) (areas : List Area) → length areas ≤ place_in right address n areas → window_in right address n areas ≡ None
unfolding window_in
no_window right address n areas past =
    ap (λ o. option_map (part_of address n) o) (find_at (admits right address n) areas ∙ slice_get_past areas (place_in right address n areas) past)

pub window_below : (right : Right) (address n : ℕ) (areas : List Area) → is_some (window_in right address n areas) ≡ true → place_in right address n areas < length areas
window_below right address n areas has =
    elim (cases_lt (place_in right address n areas) (length areas)) [
      | inl lt ↦ lt
      | inr le ↦ absurd (cc (has, no_window right address n areas le))
    ]

pub area_admits : (right : Right) (address n : ℕ) (areas : List Area) → is_some (window_in right address n areas) ≡ true → admits right address n (area_in right address n areas) ≡ true
area_admits right address n areas has = passes_at_first (admits right address n) areas nothing (window_below right address n areas has)

part_is : (right : Right) (address n : ℕ) (areas : List Area) → place_in right address n areas < length areas →
    window_in right address n areas ≡ Some (part_of address n (area_in right address n areas))
unfolding window_in
part_is right address n areas below =
    ap (λ o. option_map (part_of address n) o) (find_at (admits right address n) areas ∙ slice_get-get_or areas (place_in right address n areas) nothing below)

some_is : (o : Option (List ℕ)) (bytes : List ℕ) → o ≡ Some bytes → is_some o ≡ true
some_is o bytes is = rw is refl

-- the area at a place ends at the last address or before it
end_inside : (areas : List Area) (i : ℕ) (d : Area) → AreInside areas → i < length areas → end_of (get_or areas i d) ≤ 2 ^ 32
unfolding AreInside
end_inside [] i d inside below = absurd (omega arith)
end_inside (area ∷ areas) zero d inside below = inside.0
end_inside (area ∷ areas) (suc i) d inside below = end_inside areas i d inside.1 (omega arith)

-- An area in order that holds an address is found for it,
found_at : (at : ℕ) (areas : List Area) (i : ℕ) (d : Area) → AreInOrder 0 areas → i < length areas → holds at (get_or areas i d) ≡ true → find (holds at) areas ≡ Some (get_or areas i d)
found_at at areas i d order below here =
    find_at (holds at) areas ∙ (ap (λ k. slice_get areas k) (same_place at areas i d order below here) ∙ slice_get-get_or areas i d below)

-- and admits each part of what it admits.
pub admits_part : (right : Right) (address n at k : ℕ) (area : Area) → admits right address n area ≡ true → address ≤ at → at + k ≤ address + n → admits right at k area ≡ true
unfolding admits spans
admits_part right address n at k area here low high =
    let span = admits_spans right address n area here in
    let from = spans_from address n area span in
    let to = spans_to address n area span in
    let begin : area.first ≤ at = omega (arith, from) in
    let end : at + k ≤ end_of area = omega (arith, to) in
    and_from _ _ (and_from _ _ (le-leb _ _ begin) (le-leb _ _ end)) (admits_right right address n area here)

admits_first : (right : Right) (at k : ℕ) (area : Area) → admits right at (suc k) area ≡ true → holds at area ≡ true
admits_first right at k area here =
    let span = admits_spans right at (suc k) area here in
    let to = spans_to at (suc k) area span in
    holds_from at area (spans_from at (suc k) area span) (omega (arith, to))

-- An access in an area that admits it is open, and its number is the area's.
pub open_in_area : (right : Right) (at k : ℕ) (areas : List Area) (i : ℕ) (d : Area) → ArePlaced areas → i < length areas → admits right at k (get_or areas i d) ≡ true →
    is_open_from right at k areas ≡ true
unfolding is_open_from
open_in_area right at zero areas i d placed below here =
    let to = spans_to at 0 (get_or areas i d) (admits_spans right at 0 (get_or areas i d) here) in
    and_from _ _ (le-leb _ _ (omega (arith, to, end_inside areas i d placed.1 below))) refl
open_in_area right at (suc k) areas i d placed below here =
    let to = spans_to at (suc k) (get_or areas i d) (admits_spans right at (suc k) (get_or areas i d) here) in
    open_in_one right at (suc k) areas (get_or areas i d) placed.0 (found_at at areas i d placed.0 below (admits_first right at k (get_or areas i d) here)) here
    (omega (arith, to, end_inside areas i d placed.1 below))

number_in_area : (right : Right) (at k : ℕ) (areas : List Area) (i : ℕ) (d : Area) → AreInOrder 0 areas → i < length areas → admits right at k (get_or areas i d) ≡ true →
    number_at at k areas ≡ number_in at k (get_or areas i d)
unfolding number_at number_in
number_in_area right at zero areas i d order below here = refl
number_in_area right at (suc k) areas i d order below here =
    number_in_one right at (suc k) areas (get_or areas i d) order (found_at at areas i d order below (admits_first right at k (get_or areas i d) here)) here

bytes_from : (xs : List ℕ) (first at k : ℕ) → first ≤ at → at + k ≤ first + length xs →
    map (λ a. slice_index xs (a - first)) (range_with_len at k) ≡ take k (drop (at - first) xs)
bytes_from xs first at zero low high = refl
bytes_from xs first at (suc k) low high =
    let next : (at + 1) - first ≡ (at - first) + 1 = omega arith in
    let rest = bytes_from xs first (at + 1) k (omega arith) (omega arith) in
    rw (drop_more xs (at - first) 0 (omega arith), ← next) (ap (λ ys. slice_index xs (at - first) ∷ ys) rest)

part_of_part : (xs : List ℕ) (m n i k : ℕ) → i + k ≤ n → take k (drop i (take n (drop m xs))) ≡ take k (drop (m + i) xs)
part_of_part xs m n i k fits =
    let n_is : n ≡ i + (n - i) = omega arith in
    ap (λ j. take k (drop i (take j (drop m xs)))) n_is ∙ (ap (take k) (drop-take i (n - i) (drop m xs)) ∙ (take-take k (n - i) (drop i (drop m xs)) (omega arith) ∙ ap (take k) (drop-drop i m xs)))

number_in_part : (address n i k : ℕ) (area : Area) → spans address n area ≡ true → i + k ≤ n → number_in (address + i) k area ≡ number_of (take k (drop i (part_of address n area)))
unfolding number_in part_of
number_in_part address n i k area span fits =
    let from = spans_from address n area span in
    let to = spans_to address n area span in
    let at : (address + i) - area.first ≡ (address - area.first) + i = omega arith in
    ap number_of (bytes_from area.bytes area.first (address + i) k (omega arith) (omega arith) ∙ (ap (λ m. take k (drop m area.bytes)) at ∙ sym (part_of_part area.bytes (address - area.first) n i k fits)))

-- what both kinds of window give
pub open_in_window : (right : Right) (address n i k : ℕ) (areas : List Area) → ArePlaced areas → is_some (window_in right address n areas) ≡ true → i + k ≤ n →
    is_open_from right (address + i) k areas ≡ true
open_in_window right address n i k areas placed has fits =
    open_in_area right (address + i) k areas (place_in right address n areas) nothing placed (window_below right address n areas has)
    (admits_part right address n (address + i) k (area_in right address n areas) (area_admits right address n areas has) (omega arith) (omega arith))

window_end : (right : Right) (address n : ℕ) (areas : List Area) → ArePlaced areas → is_some (window_in right address n areas) ≡ true → address + n ≤ 2 ^ 32
window_end right address n areas placed has =
    let to = spans_to address n (area_in right address n areas) (admits_spans right address n (area_in right address n areas) (area_admits right address n areas has)) in
    let end = end_inside areas (place_in right address n areas) nothing placed.1 (window_below right address n areas has) in
    omega (arith, to, end)

window_bytes : (right : Right) (address n : ℕ) (areas : List Area) (bytes : List ℕ) → window_in right address n areas ≡ Some bytes → bytes ≡ part_of address n (area_in right address n areas)
window_bytes right address n areas bytes is =
    let part = part_is right address n areas (window_below right address n areas (some_is _ bytes is)) in
    cc (is, part)

length_part_of : (address n : ℕ) (area : Area) → spans address n area ≡ true → length (part_of address n area) ≡ n
unfolding part_of
length_part_of address n area span =
    let from = spans_from address n area span in
    let to = spans_to address n area span in
    length-take-le n (drop (address - area.first) area.bytes) (omega (arith, from, to, length-drop (address - area.first) area.bytes))

pub windows_to_read : (memory : Memory) → ArePlaced memory.areas → WindowsToRead memory
unfolding window_of
windows_to_read memory placed address n bytes is =
    let has = some_is _ bytes is in
    let area = area_in Read address n memory.areas in (
      ap length (window_bytes Read address n memory.areas bytes is) ∙ length_part_of address n area (admits_spans Read address n area (area_admits Read address n memory.areas has)),
      window_end Read address n memory.areas placed has,
    )

load_is : (b : Bool) (m n : ℕ) → b ≡ true → m ≡ n → cond b (Some m) None ≡ Some n
load_is true m n is same = ap Some same
load_is false m n is same = absurd (cc)

pub loads_in_windows : (memory : Memory) → ArePlaced memory.areas → LoadsInWindows memory
unfolding window_of load_of is_permitted
loads_in_windows memory placed address n i k bytes is fits =
    let has = some_is _ bytes is in
    let area = area_in Read address n memory.areas in
    let admitted = area_admits Read address n memory.areas has in
    let here = admits_part Read address n (address + i) k area admitted (omega arith) (omega arith) in
    let opened = open_in_window Read address n i k memory.areas placed has fits in
    let number = number_in_area Read (address + i) k memory.areas (place_in Read address n memory.areas) nothing placed.0 (window_below Read address n memory.areas has) here in
    let part = number_in_part address n i k area (admits_spans Read address n area admitted) fits in
    let is_part = window_bytes Read address n memory.areas bytes is in
    (opened, load_is _ _ _ opened (number ∙ (part ∙ ap (λ bs. number_of (take k (drop i bs))) (sym is_part))))

pub windows_to_write : (memory : Memory) → ArePlaced memory.areas → WindowsToWrite memory
unfolding has_window
windows_to_write memory placed address n has = window_end Write address n memory.areas placed has

pub stores_in_windows : (memory : Memory) → ArePlaced memory.areas → StoresInWindows memory
unfolding has_window is_permitted
stores_in_windows memory placed address n i k has fits = open_in_window Write address n i k memory.areas placed has fits
