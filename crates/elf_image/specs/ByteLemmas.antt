-- Lemmas: what is a list of bytes again.
use Rattle.std.proofs.Common.{ℕ, zero, suc, ◌+◌, ◌<◌, List, [], ◌∷◌, ◌++◌, take, drop, arith}
use Rattle.std.proofs.lemmas.List.{get_or-drop}
use Rattle.elf_image.specs.Words.{AreBytes}

pub AreBytes-nil : AreBytes []
AreBytes-nil i = omega arith

pub AreBytes-cons : (x : ℕ) (xs : List ℕ) → x < 256 → AreBytes xs → AreBytes (x ∷ xs)
AreBytes-cons x xs p q zero = p
AreBytes-cons x xs p q (suc i) = q i

pub AreBytes-rest : (x : ℕ) (xs : List ℕ) → AreBytes (x ∷ xs) → AreBytes xs
AreBytes-rest x xs p i = p (suc i)

pub AreBytes-append : (xs ys : List ℕ) → AreBytes xs → AreBytes ys → AreBytes (xs ++ ys)
AreBytes-append [] ys p q i = q i
AreBytes-append (x ∷ xs) ys p q zero = p zero
AreBytes-append (x ∷ xs) ys p q (suc i) =
    AreBytes-append xs ys (AreBytes-rest x xs p) q i

pub AreBytes-take : (n : ℕ) (xs : List ℕ) → AreBytes xs → AreBytes (take n xs)
AreBytes-take zero xs p i = AreBytes-nil i
AreBytes-take (suc n) [] p i = AreBytes-nil i
AreBytes-take (suc n) (x ∷ xs) p zero = p zero
AreBytes-take (suc n) (x ∷ xs) p (suc i) = AreBytes-take n xs (AreBytes-rest x xs p) i

pub AreBytes-drop : (n : ℕ) (xs : List ℕ) → AreBytes xs → AreBytes (drop n xs)
AreBytes-drop n xs p i = omega (arith, get_or-drop n xs i 0, p (n + i))
