-- Areas in order: at most one holds an address, and a search finds it.
use Rattle.std.proofs.Common.{◌≡◌, inl, inr, ℕ, zero, suc, ◌+◌, ◌-◌, ◌<◌, ◌≤◌, true, false, List, [], ◌∷◌, length, None, position, get_or, leb, arith}
use Rattle.std.proofs.lemmas.Bool.{cases_eq, cases_lt}
use Rattle.std.specs.List.{position_or_len}
use Rattle.std.specs.List.Sorted.{IsNonDecreasingBy}
use Rattle.std.proofs.lemmas.Bool.Decides.{nat_tests}
use Rattle.std.proofs.lemmas.Grind.{common_steps}
use Rattle.std.proofs.lemmas.List.Sums.{position_or_len_is}
use Rattle.region_mem.specs.Areas.{Area, AreInOrder, IsCount, holds, nothing}
use Rattle.region_mem.specs.ApartLemmas.{end_of}

ordered : (from : ℕ) (areas : List Area) (j : ℕ) (d : Area) → AreInOrder from areas → j < length areas → from ≤ (get_or areas j d).first
unfolding AreInOrder
ordered from [] j d order below = absurd (omega arith)
ordered from (a ∷ areas) zero d order below = order.0
ordered from (a ∷ areas) (suc j) d order below =
    let less : j < length areas = omega arith in
    omega (arith, order.0, ordered (end_of a) areas j d order.1 less)

-- One ends before a later one begins.
pub apart : (from : ℕ) (areas : List Area) (i j : ℕ) (d : Area) → AreInOrder from areas → i < j → j < length areas →
    end_of (get_or areas i d) ≤ (get_or areas j d).first
unfolding AreInOrder
apart from [] i j d order lt below = absurd (omega arith)
apart from (a ∷ areas) i zero d order lt below = absurd (omega arith)
apart from (a ∷ areas) zero (suc j) d order lt below = ordered (end_of a) areas j d order.1 (omega arith)
apart from (a ∷ areas) (suc i) (suc j) d order lt below = apart (end_of a) areas i j d order.1 (omega arith) (omega arith)

pub rise : (areas : List Area) → AreInOrder 0 areas → IsNonDecreasingBy (λ area. area.first) areas
rise areas order i j d le below =
    elim (cases_eq i j) [
      | inl same ↦ rw same (omega arith)
      | inr other ↦ omega (arith, apart 0 areas i j d order (omega arith) below)
    ]

pub not_past : (address : ℕ) (area : Area) → end_of area ≤ address → holds address area ≡ false
unfolding holds
not_past address area h = grind (arith, nat_tests)

pub not_before : (address : ℕ) (area : Area) → address < area.first → holds address area ≡ false
unfolding holds
not_before address area h = grind (arith, nat_tests)

begins : (address : ℕ) (area : Area) → leb area.first address ≡ true → area.first ≤ address
begins address area h = grind (arith, nat_tests)

begins_above : (address : ℕ) (area : Area) → leb area.first address ≡ false → address < area.first
begins_above address area h = grind (arith, nat_tests)

pub begins_at : (address : ℕ) (area : Area) → holds address area ≡ true → area.first ≤ address
unfolding holds
begins_at address area h = grind (arith, nat_tests)

-- No area before the last that begins at the address or below it holds the address.
none_before : (address : ℕ) (areas : List Area) (count k : ℕ) (d : Area) → AreInOrder 0 areas → count ≤ length areas → IsCount address areas count →
    k + 1 < count → holds address (get_or areas k d) ≡ false
none_before address areas count k d order inside split lt =
    let low = begins address (get_or areas (count - 1) d) (split.0 (count - 1) d (omega arith) (omega arith)) in
    not_past address (get_or areas k d) (omega (arith, low, apart 0 areas k (count - 1) d order (omega arith) (omega arith)))

-- The search finds the area that holds the address,
pub search_found : (address : ℕ) (areas : List Area) (count : ℕ) (d : Area) → AreInOrder 0 areas → count ≤ length areas → IsCount address areas count →
    0 < count → holds address (get_or areas (count - 1) d) ≡ true → position_or_len (holds address) areas ≡ count - 1
search_found address areas count d order inside split some here =
    position_or_len_is (holds address) areas (count - 1) d (omega arith) (λ k lt. none_before address areas count k d order inside split (omega arith)) (λ lt. here)

-- or that none does.
pub search_none : (address : ℕ) (areas : List Area) (count : ℕ) (d : Area) → AreInOrder 0 areas → count ≤ length areas → IsCount address areas count →
    (0 < count → holds address (get_or areas (count - 1) d) ≡ false) → position_or_len (holds address) areas ≡ length areas
search_none address areas count d order inside split here =
    position_or_len_is (holds address) areas (length areas) d (omega arith)
    (λ k lt. elim (cases_lt k count) [
      | inl below ↦ elim (cases_eq (k + 1) count) [
        | inl last ↦ let at : k ≡ count - 1 = omega arith in rw at (here (omega arith))
        | inr other ↦ none_before address areas count k d order inside split (omega arith)
      ]
      | inr above ↦ not_before address (get_or areas k d) (begins_above address (get_or areas k d) (split.1 k d above lt))
    ])
    (λ lt. absurd (omega arith))

-- Where an area holds one address and another, it is the one for both.
pub same_place : (at : ℕ) (areas : List Area) (i : ℕ) (d : Area) → AreInOrder 0 areas → i < length areas → holds at (get_or areas i d) ≡ true → position_or_len (holds at) areas ≡ i
same_place at areas i d order below here =
    position_or_len_is (holds at) areas i d (omega arith)
    (λ k lt. let first = begins_at at (get_or areas i d) here in not_past at (get_or areas k d) (omega (arith, first, apart 0 areas k i d order lt below))) (λ lt. here)

-- Where no area begins at the address or below it none holds it.
pub search_nowhere : (address : ℕ) (areas : List Area) (count : ℕ) → AreInOrder 0 areas → IsCount address areas count → count ≡ 0 → None ≡ position (holds address) areas
search_nowhere address areas count order split none =
    let split0 : IsCount address areas 0 = rw none at split in
    grind (arith, common_steps, search_none address areas 0 nothing order (omega arith) split0 (λ lt. absurd (omega arith)))
