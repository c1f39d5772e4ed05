-- A memory without its stack has the same buffers.
use Rattle.std.proofs.Common.{◌≡◌, ℕ, ◌+◌, ◌<◌, Bool, true, false, List, ◌∷◌, length, take, drop, filter, get_or, position, Some, ◌++◌, add-one, arith, refl, ap, sym, ◌∙◌}
use Rattle.std.specs.Prelude.{◌==◌}
use Rattle.std.specs.List.{remove}
use Rattle.std.proofs.lemmas.Grind.{common_steps}
use Rattle.std.proofs.lemmas.List.{take-append-drop}
use Rattle.std.proofs.lemmas.List.Elements.{filter-append}
use Rattle.std.proofs.lemmas.List.Quantifiers.{position-Some}
use Rattle.region_mem.specs.Areas.{Area, nothing}
use Rattle.region_mem.specs.Memory.{is_buffer_area}
use Rattle.region_mem.specs.Words.{STACK}

-- one element in front of a list, where the test gives false
skipped : {X : Type 0} (p : X → Bool) (x : X) (xs : List X) → p x ≡ false → filter p (x ∷ xs) ≡ filter p xs
skipped p x xs is = rw is refl

pub without_one : {X : Type 0} (p : X → Bool) (xs : List X) (i : ℕ) (d : X) → i < length xs → p (get_or xs i d) ≡ false → filter p (remove xs i) ≡ filter p xs
without_one p xs i d below is =
    let rest = drop (i + 1) xs in
    let cut : drop i xs ≡ get_or xs i d ∷ rest = grind (arith, common_steps, below) in
    let whole : filter p xs ≡ filter p (take i xs) ++ filter p rest =
    ap (filter p) (sym (take-append-drop i xs))
    ∙ (filter-append p (take i xs) (drop i xs)
    ∙ ap (λ ys. filter p (take i xs) ++ ys) (ap (filter p) cut ∙ skipped p (get_or xs i d) rest is)) in
    ap (λ k. filter p (take i xs ++ drop k xs)) (sym (add-one i)) ∙ (filter-append p (take i xs) rest ∙ sym whole)

no_buffer : (area : Area) → (area.first == STACK) ≡ true → is_buffer_area area ≡ false
unfolding is_buffer_area
no_buffer area is = grind (arith, common_steps, is)

pub same_buffers : (areas : List Area) (i : ℕ) → position (λ area. area.first == STACK) areas ≡ Some i → filter is_buffer_area (remove areas i) ≡ filter is_buffer_area areas
same_buffers areas i found =
    let at = position-Some (λ area. area.first == STACK) areas i nothing found in
    without_one is_buffer_area areas i nothing at.0 (no_buffer (get_or areas i nothing) at.1)
