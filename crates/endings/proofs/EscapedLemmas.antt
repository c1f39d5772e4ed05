-- A character of a text, between those before it and those behind it.
use Rattle.std.proofs.Common.{◌≡◌, ◌∙◌, ◌++◌, ◌<◌, ℕ, zero, suc, List, [], ◌∷◌, ap, append_assoc, arith, drop, flat_map, get_or, length, map, map-id, refl, sym, take}
use Rattle.job_reasons.specs.Escaped.{shown_text}

flat-split : (f : ℕ → List ℕ) (all : List ℕ) (k d : ℕ) → k < length all
    → flat_map f (take k all) ++ (f (get_or all k d) ++ flat_map f (drop (suc k) all)) ≡ flat_map f all
flat-split f [] k d less = absurd (omega (arith, less))
flat-split f (x ∷ xs) zero d less = refl
flat-split f (x ∷ xs) (suc k) d less = append_assoc (f x) (flat_map f (take k xs)) _ ∙ ap (λ (l : List ℕ). f x ++ l) (flat-split f xs k d (omega (arith, less)))

pub shown-rest : (all xs : List ℕ) (c : ℕ) → map (λ x. x) xs ≡ take (length xs) all → (length xs < length all) × (c ≡ get_or all (length xs) c)
    → flat_map shown_text xs ++ (shown_text c ++ flat_map shown_text (drop (suc (length xs)) all)) ≡ flat_map shown_text all
shown-rest all xs c so (less, is) =
    let rest = flat_map shown_text (drop (suc (length xs)) all) in
    ap (λ (l : List ℕ). flat_map shown_text l ++ (shown_text c ++ rest)) (sym (map-id xs) ∙ so)
    ∙ ap (λ (k : ℕ). flat_map shown_text (take (length xs) all) ++ (shown_text k ++ rest)) is
    ∙ flat-split shown_text all (length xs) c less
