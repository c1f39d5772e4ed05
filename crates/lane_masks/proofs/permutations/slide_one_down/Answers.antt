use Rattle.std.proofs.Common.{◌≡◌, ◌∙◌, ◌++◌, ◌-◌, ◌+◌, ℕ, List, [], ◌∷◌, suc, refl, ap, arith, length, set, drop, length-drop}
use Rattle.std.proofs.lemmas.List.{take_all}
use Rattle.std.specs.List.{copy_within}
use Rattle.lane_masks.specs.Permutations.{slid_one_down}
use Rattle.lane_masks.proofs.permutations.slide_one_down.Goals as goal

set_last : {A : Type 0} (ys zs : List A) (x : A) → length zs ≡ 1 → set (ys ++ zs) (length ys) x ≡ ys ++ x ∷ []
set_last [] [] x e = absurd (omega arith)
set_last [] (z ∷ []) x e = refl
set_last [] (z ∷ w ∷ zs) x e = absurd (omega arith)
set_last (y ∷ ys) zs x e = ap (λ l. y ∷ l) (set_last ys zs x e)

moved : {A : Type 0} (xs : List A) (n : ℕ) (x : A) → length xs ≡ suc n → set (copy_within xs 1 (length xs) 0) n x ≡ drop 1 (xs ++ x ∷ [])
moved [] n x e = absurd (omega arith)
moved (a ∷ ys) n x e =
    let is : n ≡ length ys = omega arith in
    let less : suc (length ys) - 1 ≡ length ys = omega arith in
    let one : length (drop (length ys) (a ∷ ys)) ≡ 1 = length-drop (length ys) (a ∷ ys) ∙ omega arith in
    let at : 0 + length ys ≡ length ys = omega arith in
    rw (is, less, at, take_all (length ys) ys (omega arith)) (set_last ys (drop (length ys) (a ∷ ys)) x one)

pub returns-then-count-ne0 : goal.returns-then-count-ne0
unfolding slid_one_down
returns-then-count-ne0 g c =
    let e = c.copy_within.ensures.after in
    rw e (moved c.args.body.now (length c.args.body.now - 1) c.args.x (omega (arith, c.if-count-ne0.true)))
