-- What an access that one area holds whole gives and leaves.
use Rattle.std.proofs.Common.{◌≡◌, ℕ, zero, suc, ◌+◌, ◌-◌, ◌^◌, ◌<◌, ◌≤◌, Bool, true, false, ◌&&◌, ◌||◌, cond, subst, List, [], ◌∷◌, length, map, find, Some, None, position, unwrap_or, slice_index, get_or, set, arith, sym, ap, refl, ◌∙◌, length-set}
use Rattle.std.specs.Prelude.{IsTrue}
use Rattle.std.specs.List.{position_or_len, list_any, list_all, range_with_len, slice_get}
use Rattle.std.proofs.lemmas.Bool.{and_parts, and_from, leb-true, le-leb}
use Rattle.std.proofs.lemmas.Bool.Decides.{nat_tests}
use Rattle.std.proofs.lemmas.Grind.{common_steps}
use Rattle.std.proofs.lemmas.List.{get_or-set_same, set-get_or, set-set}
use Rattle.std.proofs.lemmas.List.Folds.{find_at}
use Rattle.std.proofs.lemmas.List.Quantifiers.{position-Some}
use Rattle.std.proofs.lemmas.Option.{slice_get-get_or, get_or_from_slice_get, slice_get_within, slice_get_past}
use Rattle.std.proofs.Math.Bool.{or-true}
use Rattle.region_mem.specs.Words.{Right}
use Rattle.region_mem.specs.Areas.{Area, AreInOrder, holds, spans, admits, has_right, is_open, is_open_from, byte_at, number_at, number_of, number_in, bytes_of, part_into, with_byte, with_bytes, with_number}
use Rattle.region_mem.specs.ApartLemmas.{end_of}
use Rattle.region_mem.specs.ExtentLemmas.{byte_keeps, order_of}
use Rattle.region_mem.specs.WriteLemmas.{with_byte_first, written}
use Rattle.region_mem.specs.PartLemmas.{parts_join, part_none, part_one, length_bytes}
use Rattle.region_mem.specs.SearchLemmas.{same_place}

-- The area that a search found.
pub find_place : {X : Type 0} (p : X → Bool) (xs : List X) (i : ℕ) (d : X) → position p xs ≡ Some i → find p xs ≡ Some (get_or xs i d)
find_place p xs i d found =
    let is = position-Some p xs i d found in
    let at : position_or_len p xs ≡ i = grind (arith, common_steps, found) in
    find_at p xs ∙ (ap (λ k. slice_get xs k) at ∙ slice_get-get_or xs i d is.0)

pub find_none : {X : Type 0} (p : X → Bool) (xs : List X) → position p xs ≡ None → find p xs ≡ None
find_none p xs none =
    let past : length xs ≤ position_or_len p xs = grind (arith, common_steps, none) in
    find_at p xs ∙ slice_get_past xs (position_or_len p xs) past

pub spans_from : (address n : ℕ) (area : Area) → spans address n area ≡ true → area.first ≤ address
unfolding spans
spans_from address n area h = leb-true _ _ (and_parts _ _ h).0

pub spans_to : (address n : ℕ) (area : Area) → spans address n area ≡ true → address + n ≤ end_of area
unfolding spans
spans_to address n area h = leb-true _ _ (and_parts _ _ h).1

pub holds_from : (at : ℕ) (area : Area) → area.first ≤ at → at < end_of area → holds at area ≡ true
unfolding holds
holds_from at area low high = grind (arith, nat_tests)

found_holds : (b : Bool) (address : ℕ) (a : Area) (areas : List Area) (area : Area) → b ≡ holds address a → (find (holds address) areas ≡ Some area → holds address area ≡ true) →
    cond b (Some a) (find (holds address) areas) ≡ Some area → holds address area ≡ true
found_holds true address a areas area is rest found = let same : a ≡ area = cc in rw (← same) (sym is)
found_holds false address a areas area is rest found = rest found

found_step : (address : ℕ) (areas : List Area) (area : Area) → find (holds address) areas ≡ Some area → holds address area ≡ true
found_step address [] area found = absurd (cc)
found_step address (a ∷ areas) area found = found_holds (holds address a) address a areas area refl (λ f. found_step address areas area f) found

pub find_holds : (address : ℕ) (areas : List Area) (area : Area) → find (holds address) areas ≡ Some area → IsTrue (holds address area)
find_holds address areas area found = grind (arith, common_steps, found_step address areas area found)

-- An area that was found and that holds another address is found for that one too.
find_other : (address at : ℕ) (areas : List Area) (area : Area) → AreInOrder 0 areas → find (holds address) areas ≡ Some area → holds at area ≡ true → find (holds at) areas ≡ Some area
find_other address at areas area order found here =
    let i = position_or_len (holds address) areas in
    let got : slice_get areas i ≡ Some area = sym (find_at (holds address) areas) ∙ found in
    let same : get_or areas i area ≡ area = get_or_from_slice_get areas i area area got in
    let place = same_place at areas i area order (slice_get_within areas i area got) (ap (holds at) same ∙ here) in
    find_at (holds at) areas ∙ (ap (λ k. slice_get areas k) place ∙ got)

byte_other : (address at : ℕ) (areas : List Area) (area : Area) → AreInOrder 0 areas → find (holds address) areas ≡ Some area → holds at area ≡ true →
    unwrap_or (byte_at at areas) 0 ≡ slice_index area.bytes (at - area.first)
unfolding byte_at
byte_other address at areas area order found here = rw (find_other address at areas area order found here) refl

any_step : (b : Bool) (p q : Area → Bool) (a : Area) (areas : List Area) (area : Area) → (find p areas ≡ Some area → list_any q areas ≡ true) → cond b (Some a) (find p areas) ≡ Some area →
    q area ≡ true → (q a || list_any q areas) ≡ true
any_step true p q a areas area rest found here = let same : a ≡ area = cc in rw (same, here) refl
any_step false p q a areas area rest found here = rw (rest found) (or-true (q a))

any_found : (p q : Area → Bool) (areas : List Area) (area : Area) → find p areas ≡ Some area → q area ≡ true → list_any q areas ≡ true
any_found p q [] area found here = absurd (cc)
any_found p q (a ∷ areas) area found here = any_step (p a) p q a areas area (λ f. any_found p q areas area f here) found here

open_other : (right : Right) (address at : ℕ) (areas : List Area) (area : Area) → AreInOrder 0 areas → find (holds address) areas ≡ Some area → holds at area ≡ true →
    has_right right area ≡ true → is_open right areas at ≡ true
unfolding is_open
open_other right address at areas area order found here has =
    any_found (holds at) (λ a. holds at a && has_right right a) areas area (find_other address at areas area order found here) (rw (here, has) refl)

-- Each address of the part is the area's.
all_from : (right : Right) (address from n : ℕ) (areas : List Area) (area : Area) → AreInOrder 0 areas → find (holds address) areas ≡ Some area →
    has_right right area ≡ true → area.first ≤ from → from + n ≤ end_of area → list_all (is_open right areas) (range_with_len from n) ≡ true
all_from right address from zero areas area order found has low high = refl
all_from right address from (suc n) areas area order found has low high =
    let here = open_other right address from areas area order found (holds_from from area low (omega arith)) has in
    rw here (all_from right address (from + 1) n areas area order found has (omega arith) (omega arith))

map_from : (address from n : ℕ) (areas : List Area) (area : Area) → AreInOrder 0 areas → find (holds address) areas ≡ Some area →
    area.first ≤ from → from + n ≤ end_of area →
    map (λ at. unwrap_or (byte_at at areas) 0) (range_with_len from n) ≡ map (λ at. slice_index area.bytes (at - area.first)) (range_with_len from n)
map_from address from zero areas area order found low high = refl
map_from address from (suc n) areas area order found low high =
    let here = byte_other address from areas area order found (holds_from from area low (omega arith)) in
    rw here (ap (λ xs. slice_index area.bytes (from - area.first) ∷ xs) (map_from address (from + 1) n areas area order found (omega arith) (omega arith)))

pub admits_spans : (right : Right) (address n : ℕ) (area : Area) → admits right address n area ≡ true → spans address n area ≡ true
unfolding admits
admits_spans right address n area h = (and_parts _ _ h).0

pub admits_right : (right : Right) (address n : ℕ) (area : Area) → admits right address n area ≡ true → has_right right area ≡ true
unfolding admits
admits_right right address n area h = (and_parts _ _ h).1

-- An access that the area admits is open,
pub open_in_one : (right : Right) (address n : ℕ) (areas : List Area) (area : Area) → AreInOrder 0 areas → find (holds address) areas ≡ Some area →
    admits right address n area ≡ true → address + n ≤ 2 ^ 32 → is_open_from right address n areas ≡ true
unfolding is_open_from
open_in_one right address n areas area order found admitted end =
    let span = admits_spans right address n area admitted in
    let all = all_from right address address n areas area order found (admits_right right address n area admitted) (spans_from address n area span) (spans_to address n area span) in
    and_from _ _ (le-leb _ _ end) all

-- and the number there is the area's.
pub number_in_one : (right : Right) (address n : ℕ) (areas : List Area) (area : Area) → AreInOrder 0 areas → find (holds address) areas ≡ Some area →
    admits right address n area ≡ true → number_at address n areas ≡ number_in address n area
unfolding number_at number_in
number_in_one right address n areas area order found admitted =
    let span = admits_spans right address n area admitted in
    ap number_of (map_from address address n areas area order found (spans_from address n area span) (spans_to address n area span))

-- Bytes that one area takes whole go into that area,
place_holds : (address n : ℕ) (area : Area) → area.first ≤ address → address + suc n ≤ end_of area → holds address area ≡ true
place_holds address n area low high = holds_from address area low (omega arith)

bytes_go : (address : ℕ) (bytes : List ℕ) (areas : List Area) (i : ℕ) (d : Area) → AreInOrder 0 areas → i < length areas → (get_or areas i d).first ≤ address → address + length bytes ≤ end_of (get_or areas i d) →
    with_bytes address bytes areas ≡ set areas i (part_into address bytes (get_or areas i d))
unfolding with_bytes
bytes_go address [] areas i d order below low high =
    sym (ap (set areas i) (part_none address (get_or areas i d)) ∙ set-get_or areas i d)
bytes_go address (byte ∷ bytes) areas i d order below low high =
    let area = get_or areas i d in
    let place = same_place address areas i d order below (place_holds address (length bytes) area low high) in
    let first : with_byte address byte areas ≡ set areas i (written address byte area) =
    let P : ℕ → Type 0 = λ k. with_byte address byte areas ≡ set areas k (written address byte (get_or areas k d)) in
    subst P place (with_byte_first address byte areas d (rw place below)) in
    let next = set areas i (written address byte area) in
    let got : get_or next i d ≡ written address byte area = get_or-set_same areas i (written address byte area) d below in
    let size : length (written address byte area).bytes ≡ length area.bytes = length-set area.bytes (address - area.first) byte in
    let order2 : AreInOrder 0 next = rw (← first) (order_of 0 (with_byte address byte areas) areas (byte_keeps address byte areas) order) in
    let below2 : i < length next = rw (length-set areas i (written address byte area)) below in
    let rest = bytes_go (address + 1) bytes next i d order2 below2 (rw got (omega arith)) (rw got (omega (arith, size))) in
    let join : part_into (address + 1) bytes (written address byte area) ≡ part_into address (byte ∷ bytes) area =
    ap (part_into (address + 1) bytes) (part_one address byte area low (omega arith)) ∙ parts_join address (byte ∷ []) bytes area low (omega arith) in
    rw first (rest ∙ (ap (λ a. set next i (part_into (address + 1) bytes a)) got ∙ (set-set areas i (written address byte area) (part_into (address + 1) bytes (written address byte area)) ∙ ap (set areas i) join)))

-- and so does a number.
pub number_goes : (n address value : ℕ) (areas : List Area) (i : ℕ) (d : Area) → AreInOrder 0 areas → i < length areas → (get_or areas i d).first ≤ address → address + n ≤ end_of (get_or areas i d) →
    with_number address n value areas ≡ set areas i (part_into address (bytes_of n value) (get_or areas i d))
unfolding with_number
number_goes n address value areas i d order below low high =
    bytes_go address (bytes_of n value) areas i d order below low (omega (arith, length_bytes n value))

-- The area that takes an access whole is found, wherever it stands.
pub found_there : (right : Right) (address n : ℕ) (areas : List Area) (i : ℕ) (d : Area) → AreInOrder 0 areas → i < length areas → 0 < n →
    admits right address n (get_or areas i d) ≡ true → find (holds address) areas ≡ Some (get_or areas i d)
found_there right address n areas i d order below some admitted =
    let area = get_or areas i d in
    let span = admits_spans right address n area admitted in
    let low = spans_from address n area span in
    let high = spans_to address n area span in
    let here = holds_from address area low (omega (arith, high)) in
    let place = same_place address areas i d order below here in
    find_at (holds address) areas ∙ (ap (λ k. slice_get areas k) place ∙ slice_get-get_or areas i d below)

-- The same, of the place that was found.
pub open_at : (right : Right) (address n : ℕ) (areas : List Area) (i : ℕ) (d : Area) → AreInOrder 0 areas → position (holds address) areas ≡ Some i →
    admits right address n (get_or areas i d) ≡ true → address + n ≤ 2 ^ 32 → is_open_from right address n areas ≡ true
open_at right address n areas i d order found admitted end =
    open_in_one right address n areas (get_or areas i d) order (find_place (holds address) areas i d found) admitted end

pub goes_at : (right : Right) (address n value : ℕ) (areas : List Area) (i : ℕ) (d : Area) → AreInOrder 0 areas → position (holds address) areas ≡ Some i →
    admits right address n (get_or areas i d) ≡ true → set areas i (part_into address (bytes_of n value) (get_or areas i d)) ≡ with_number address n value areas
goes_at right address n value areas i d order found admitted =
    let span = admits_spans right address n (get_or areas i d) admitted in
    sym (number_goes n address value areas i d order (position-Some (holds address) areas i d found).0 (spans_from address n (get_or areas i d) span) (spans_to address n (get_or areas i d) span))
