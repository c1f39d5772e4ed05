-- Lists with an item that changes in place.
use Rattle.std.proofs.Common.{arith, sym, ap, ◌∙◌, ◌≡◌, ◌+◌, ◌<◌, ℕ, List, map, length, take, drop, get_or}
use Rattle.std.specs.Prelude.{slice_set}
use Rattle.std.proofs.lemmas.Grind.{drop_more_same}
use Rattle.std.proofs.lemmas.List.{drop-set-lt, get_or-drop}
use Rattle.abs_domain.specs.StartFormLemmas.{mapped_more}

same_place : {X : Type 0} (xs ys : List X) (n : ℕ) (d : X) → drop n xs ≡ drop n ys → get_or xs n d ≡ get_or ys n d
same_place {X = X} xs ys n d e = sym (place xs) ∙ (ap (λ zs. get_or zs 0 d) e ∙ place ys)
  where
    place : (zs : List X) → get_or (drop n zs) 0 d ≡ get_or zs n d
    place zs = (let here : n + 0 ≡ n = omega arith in get_or-drop n zs 0 d ∙ ap (λ k. get_or zs k d) here)

-- item n is changed, where those before it are and the others are as they were
pub changed_more : {X : Type 0} (f : X → X) (xs old : List X) (n : ℕ) (d y : X) → n < length xs → length old ≡ length xs
    → take n old ≡ map f (take n xs) → drop n old ≡ drop n xs → y ≡ f (get_or old n d)
    → take (n + 1) (slice_set old n y) ≡ map f (take (n + 1) xs)
changed_more f xs old n d y l same done rest is =
    mapped_more f xs n d old y (omega (arith, l, same)) l done (is ∙ ap f (same_place old xs n d rest))

pub others_more : {X : Type 0} (xs old : List X) (n : ℕ) (y : X) → drop n old ≡ drop n xs
    → drop (n + 1) (slice_set old n y) ≡ drop (n + 1) xs
others_more xs old n y rest = drop-set-lt (n + 1) old n y (omega arith) ∙ drop_more_same old xs n rest
