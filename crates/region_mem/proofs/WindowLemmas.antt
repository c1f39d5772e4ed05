-- The area that has a window is the one that a search finds.
use Rattle.std.proofs.Common.{◌≡◌, inl, inr, ℕ, ◌<◌, ◌≤◌, Bool, true, false, cond, List, length, find, Some, None, is_some, get_or, arith, sym, ap, refl, ◌∙◌}
use Rattle.std.specs.List.{position_or_len, slice_get}
use Rattle.std.specs.Option.{option_map}
use Rattle.std.proofs.lemmas.List.Folds.{find_at}
use Rattle.std.proofs.lemmas.List.Sums.{position_or_len_is, fails_before_first}
use Rattle.std.proofs.lemmas.Option.{get_or_from_slice_get, slice_get_within, slice_get_past, slice_get-get_or}
use Rattle.std.proofs.lemmas.Bool.{cases_lt}
use Rattle.region_mem.specs.Words.{Right}
use Rattle.region_mem.specs.Areas.{Area, nothing, AreInOrder, holds, admits, part_of, window_in}
use Rattle.region_mem.specs.SearchLemmas.{same_place}
use Rattle.region_mem.specs.AccessLemmas.{admits_spans, spans_from, spans_to, holds_from}

pub admits_holds : (right : Right) (address n : ℕ) (area : Area) → 0 < n → admits right address n area ≡ true → holds address area ≡ true
admits_holds right address n area some h =
    let span = admits_spans right address n area h in
    let high = spans_to address n area span in
    holds_from address area (spans_from address n area span) (omega arith)

-- what is not true is false
not_true : (b : Bool) → (b ≡ true → b ≡ false) → b ≡ false
not_true true h = h refl
not_true false h = refl

none_admits : (right : Right) (address n : ℕ) (area : Area) → 0 < n → holds address area ≡ false → admits right address n area ≡ false
none_admits right address n area some h =
    not_true (admits right address n area) (λ is. absurd (cc (h, admits_holds right address n area some is)))

none_found : (p : Area → Bool) (areas : List Area) (d : Area) → ((k : ℕ) → k < length areas → p (get_or areas k d) ≡ false) → find p areas ≡ None
none_found p areas d h =
    let all = position_or_len_is p areas (length areas) d (omega arith) h (λ lt. absurd (omega arith)) in
    find_at p areas ∙ slice_get_past areas (position_or_len p areas) (omega (arith, all))

window_case : (b : Bool) (right : Right) (address n : ℕ) (areas : List Area) (area : Area) → b ≡ admits right address n area → 0 < n → AreInOrder 0 areas →
    find (holds address) areas ≡ Some area → find (admits right address n) areas ≡ cond b (Some area) None
window_case true right address n areas area is some order found =
    let i = position_or_len (holds address) areas in
    let got : slice_get areas i ≡ Some area = sym (find_at (holds address) areas) ∙ found in
    let same : get_or areas i area ≡ area = get_or_from_slice_get areas i area area got in
    let within = slice_get_within areas i area got in
    let place = position_or_len_is (admits right address n) areas i area (omega arith)
    (λ k lt. none_admits right address n (get_or areas k area) some (fails_before_first (holds address) areas k area lt))
    (λ lt. ap (admits right address n) same ∙ sym is) in
    find_at (admits right address n) areas ∙ (ap (λ k. slice_get areas k) place ∙ got)
window_case false right address n areas area is some order found =
    let i = position_or_len (holds address) areas in
    let got : slice_get areas i ≡ Some area = sym (find_at (holds address) areas) ∙ found in
    let same : get_or areas i area ≡ area = get_or_from_slice_get areas i area area got in
    none_found (admits right address n) areas area (λ k lt. not_true (admits right address n (get_or areas k area))
    (λ here. let place = same_place address areas k area order lt (admits_holds right address n (get_or areas k area) some here) in
    ap (λ j. admits right address n (get_or areas j area)) (sym place) ∙ (ap (admits right address n) same ∙ sym is)))

mapped : (b : Bool) (f : Area → List ℕ) (area : Area) → option_map f (cond b (Some area) None) ≡ cond b (Some (f area)) None
mapped true f area = refl
mapped false f area = refl

pub window_at : (right : Right) (address n : ℕ) (areas : List Area) (area : Area) → 0 < n → AreInOrder 0 areas →
    find (holds address) areas ≡ Some area → window_in right address n areas ≡ cond (admits right address n area) (Some (part_of address n area)) None
unfolding window_in
window_at right address n areas area some order found =
    ap (λ o. option_map (part_of address n) o) (window_case (admits right address n area) right address n areas area refl some order found)
    ∙ mapped (admits right address n area) (part_of address n) area

past_step : (areas : List Area) (n : ℕ) (d : Area) → slice_get areas n ≡ None → (n < length areas → slice_get areas n ≡ Some (get_or areas n d)) → length areas ≤ n
past_step areas n d none some =
    elim (cases_lt n (length areas)) [
      | inl lt ↦ absurd (cc (none, some lt))
      | inr le ↦ le
    ]

past_all : (p : Area → Bool) (areas : List Area) → find p areas ≡ None → length areas ≤ position_or_len p areas
past_all p areas none =
    past_step areas (position_or_len p areas) nothing (sym (find_at p areas) ∙ none) (slice_get-get_or areas (position_or_len p areas) nothing)

all_fail : (p : Area → Bool) (areas : List Area) (d : Area) → find p areas ≡ None → (k : ℕ) → k < length areas → p (get_or areas k d) ≡ false
all_fail p areas d none k lt = fails_before_first p areas k d (omega (arith, past_all p areas none))

pub window_nowhere : (right : Right) (address n : ℕ) (areas : List Area) → 0 < n → find (holds address) areas ≡ None → window_in right address n areas ≡ None
unfolding window_in
window_nowhere right address n areas some none =
    ap (λ o. option_map (part_of address n) o)
    (none_found (admits right address n) areas nothing (λ k lt. none_admits right address n (get_or areas k nothing) some (all_fail (holds address) areas nothing none k lt)))

told : (b : Bool) (l : List ℕ) → b ≡ is_some (cond b (Some l) None)
told true l = refl
told false l = refl

-- One area has a window where the area that holds its first byte admits it.
pub window_told : (right : Right) (address n : ℕ) (areas : List Area) (area : Area) → 0 < n → AreInOrder 0 areas →
    find (holds address) areas ≡ Some area → admits right address n area ≡ is_some (window_in right address n areas)
window_told right address n areas area some order found =
    told (admits right address n area) (part_of address n area) ∙ sym (ap is_some (window_at right address n areas area some order found))
