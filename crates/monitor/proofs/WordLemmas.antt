-- Where a line is cut into words.
use Rattle.std.proofs.Common.{◌≡◌, ◌<◌, ◌==◌, ℕ, suc, false, List, [], ◌∷◌, ◌++◌, length, get_or, refl, arith}
use Rattle.monitor.specs.Lines.{words}

-- no space in a text
abbrev pub NoSpace : List ℕ → Type 0
NoSpace xs = (i : ℕ) → i < length xs → ¬ (get_or xs i 0 ≡ 32)

no_space_rest : (x : ℕ) (xs : List ℕ) → NoSpace (x ∷ xs) → NoSpace xs
no_space_rest x xs none i below = none (suc i) (omega (arith, below))

differs : (x : ℕ) → ¬ (x ≡ 32) → (x == 32) ≡ false
differs x other = grind (arith, other)

pub words-one : (xs : List ℕ) → NoSpace xs → words xs ≡ xs ∷ []
unfolding words
words-one [] none = refl
words-one (x ∷ xs) none =
    let other = differs x (none 0 (omega arith)) in
    rw (other, words-one xs (no_space_rest x xs none)) refl

pub words-cut : (xs ys : List ℕ) → NoSpace xs → words (xs ++ (32 ∷ ys)) ≡ xs ∷ words ys
unfolding words
words-cut [] ys none = refl
words-cut (x ∷ xs) ys none =
    let other = differs x (none 0 (omega arith)) in
    rw (other, words-cut xs ys (no_space_rest x xs none)) refl
