-- Lists of eight, one by one.
use Rattle.std.proofs.Common.{◌≡◌, ◌∙◌, List, [], ◌∷◌, ap, sym, arith, length, get_or, map}
use Rattle.std.proofs.Math.Seq.{drop-cons}
use Rattle.std.proofs.lemmas.List.{drop_all}

-- a list of eight
pub eight_are : {X : Type 0} (l : List X) (d : X) → length l ≡ 8
    → l ≡ get_or l 0 d ∷ (get_or l 1 d ∷ (get_or l 2 d ∷ (get_or l 3 d ∷ (get_or l 4 d ∷ (get_or l 5 d ∷ (get_or l 6 d ∷ (get_or l 7 d ∷ [])))))))
eight_are l d len =
    drop-cons l 0 d (omega (arith, len)) ∙ ap (λ r. get_or l 0 d ∷ r)
    (drop-cons l 1 d (omega (arith, len)) ∙ ap (λ r. get_or l 1 d ∷ r)
    (drop-cons l 2 d (omega (arith, len)) ∙ ap (λ r. get_or l 2 d ∷ r)
    (drop-cons l 3 d (omega (arith, len)) ∙ ap (λ r. get_or l 3 d ∷ r)
    (drop-cons l 4 d (omega (arith, len)) ∙ ap (λ r. get_or l 4 d ∷ r)
    (drop-cons l 5 d (omega (arith, len)) ∙ ap (λ r. get_or l 5 d ∷ r)
    (drop-cons l 6 d (omega (arith, len)) ∙ ap (λ r. get_or l 6 d ∷ r)
    (drop-cons l 7 d (omega (arith, len)) ∙ ap (λ r. get_or l 7 d ∷ r)
    (drop_all 8 l (omega (arith, len))))))))))

-- what is made of eight, one by one
pub eight_mapped : {X Y : Type 0} (f : X → Y) (l : List X) (d : X) (b0 b1 b2 b3 b4 b5 b6 b7 : Y) → length l ≡ 8
    → b0 ≡ f (get_or l 0 d) → b1 ≡ f (get_or l 1 d) → b2 ≡ f (get_or l 2 d) → b3 ≡ f (get_or l 3 d)
    → b4 ≡ f (get_or l 4 d) → b5 ≡ f (get_or l 5 d) → b6 ≡ f (get_or l 6 d) → b7 ≡ f (get_or l 7 d)
    → (b0 ∷ (b1 ∷ (b2 ∷ (b3 ∷ (b4 ∷ (b5 ∷ (b6 ∷ (b7 ∷ [])))))))) ≡ map f l
eight_mapped f l d b0 b1 b2 b3 b4 b5 b6 b7 len e0 e1 e2 e3 e4 e5 e6 e7 =
    let all : map f (get_or l 0 d ∷ (get_or l 1 d ∷ (get_or l 2 d ∷ (get_or l 3 d ∷ (get_or l 4 d ∷ (get_or l 5 d ∷ (get_or l 6 d ∷ (get_or l 7 d ∷ [])))))))) ≡ map f l =
    ap (λ p. map f p) (sym (eight_are l d len)) in
    cc
