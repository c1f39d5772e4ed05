-- Lanes of three lists, and a lane that is a byte.
use Rattle.std.proofs.Common.{◌≡◌, ℕ, ◌+◌, ◌*◌, ◌<◌, List, [], ◌∷◌, zero, suc, length, get_or, refl, ap, ◌∙◌, arith}
use Rattle.byteorder.specs.Endian.{little_from}
use Rattle.lane_int.specs.Lists.{zip3}

pub length-zip3 : {A B C D : Type 0} (f : A → B → C → D) (xs : List A) (ys : List B) (zs : List C) → length ys ≡ length xs → length zs ≡ length xs → length (zip3 f xs ys zs) ≡ length xs
length-zip3 f [] ys zs p q = refl
length-zip3 f (x ∷ xs) [] zs p q = absurd (omega arith)
length-zip3 f (x ∷ xs) (y ∷ ys) [] p q = absurd (omega arith)
length-zip3 f (x ∷ xs) (y ∷ ys) (z ∷ zs) p q = ap suc (length-zip3 f xs ys zs (omega arith) (omega arith))

pub get_or-zip3 : {A B C D : Type 0} (f : A → B → C → D) (xs : List A) (ys : List B) (zs : List C) (i : ℕ) (a : A) (b : B) (c : C) (e : D) → i < length xs → i < length ys → i < length zs → get_or (zip3 f xs ys zs) i e ≡ f (get_or xs i a) (get_or ys i b) (get_or zs i c)
get_or-zip3 f [] ys zs i a b c e p q r = absurd (omega arith)
get_or-zip3 f (x ∷ xs) [] zs i a b c e p q r = absurd (omega arith)
get_or-zip3 f (x ∷ xs) (y ∷ ys) [] i a b c e p q r = absurd (omega arith)
get_or-zip3 f (x ∷ xs) (y ∷ ys) (z ∷ zs) zero a b c e p q r = refl
get_or-zip3 f (x ∷ xs) (y ∷ ys) (z ∷ zs) (suc i) a b c e p q r = get_or-zip3 f xs ys zs i a b c e (omega arith) (omega arith) (omega arith)

pub byte_alone : (j : ℕ) (xs : List ℕ) → get_or xs j 0 ≡ little_from (1 * j) 1 xs
byte_alone j xs =
    let same : j ≡ 1 * j = omega arith in
    let at : get_or xs j 0 ≡ get_or xs (1 * j) 0 = ap (λ i. get_or xs i 0) same in
    let alone : get_or xs (1 * j) 0 ≡ get_or xs (1 * j) 0 + 256 * 0 = omega arith in
    at ∙ alone
