-- Texts, one after the other.
use Rattle.std.proofs.Common.{◌≡◌, ◌∙◌, ◌+◌, ◌<◌, ◌≤◌, ℕ, zero, suc, List, [], ◌∷◌, ◌++◌, take, drop, get_or, length, Option, Some, None, Err, refl, sym, append_assoc, add-one, arith, inl, inr}
use Rattle.std.specs.Io.KnownBytes.{Appends}
use Rattle.std.proofs.Math.Nat.{eq-or-lt_of_le}
use Rattle.std.proofs.lemmas.List.{append-nil}
use Rattle.hex.specs.Hex.{encode_lower, encode_with}
use Rattle.rv_listing.specs.Sinks.{AppendsSome, IsCounted}
use Rattle.rv_listing.specs.SinkLemmas.{appends_both, told_part, told_then}
use Rattle.monitor.specs.Texts.{texts}

-- the texts before one, that one, and those after it
texts-cut : (text : ℕ → List ℕ) (i n : ℕ) → i < n → (rest : List ℕ) × (texts text n ≡ texts text i ++ (text i ++ rest))
unfolding texts
texts-cut text i zero below = absurd (omega (arith, below))
texts-cut text i (suc n) below =
    let within : i ≤ n = omega (arith, below) in
    elim (eq-or-lt_of_le {n = i} {m = n} within) as (λ _. (rest : List ℕ) × (texts text n ++ text n ≡ texts text i ++ (text i ++ rest))) [
      | inl equal ↦ ([], rw (equal, append-nil (text n)) refl)
      | inr less ↦
          let (rest, is) = texts-cut text i n less in
          (rest ++ text n, rw (is, append_assoc (texts text i) (text i ++ rest) (text n), append_assoc (text i) rest (text n)) refl)
    ]

-- nothing yet
pub texts_none : (text : ℕ → List ℕ) (a : Option (List ℕ)) → Appends a a (texts text 0)
unfolding texts
texts_none text None = tt
texts_none text (Some p) = sym (append-nil p)

-- one more, with the failures so far
pub texts_more : (text : ℕ → List ℕ) (i : ℕ) (a b c : Option (List ℕ)) (k m l : ℕ) → Appends a b (texts text i) × (m ≡ k)
    → Appends b c (text i) × (l ≡ m) → Appends a c (texts text (i + 1)) × (l ≡ k)
unfolding texts
texts_more text i a b c k m l first more =
    (rw (add-one i) (appends_both a b c (texts text i) (text i) first.0 more.0), more.1 ∙ first.1)

-- all
pub texts_all : (text : ℕ → List ℕ) (i n : ℕ) (a b : Option (List ℕ)) (k m : ℕ) → i ≡ n → Appends a b (texts text i) × (m ≡ k)
    → Appends a b (texts text n) × (m ≡ k)
texts_all text i n a b k m same told = rw (← same) told

-- a failure in between
pub texts_stop : {E : Type 0} (e : E) (text : ℕ → List ℕ) (i n : ℕ) (a b c : Option (List ℕ)) (k m l : ℕ) → i < n
    → Appends a b (texts text i) × (m ≡ k) → AppendsSome b c (text i) × IsCounted m l → AppendsSome a c (texts text n) × IsCounted k l
texts_stop e text i n a b c k m l below first more =
    let (rest, is) = texts-cut text i n below in
    rw is (told_then (Err e) a b c k m l (texts text i) (text i ++ rest) first (told_part b c m l (text i) rest more))

-- ---- bytes

pub bytes_none : (xs : List ℕ) (a : Option (List ℕ)) → Appends a a (encode_lower (take 0 xs))
unfolding encode_with
bytes_none xs None = tt
bytes_none xs (Some p) = sym (append-nil p)

pub bytes-next : (xs : List ℕ) (i : ℕ) → i < length xs
    → encode_lower (take (suc i) xs) ≡ encode_lower (take i xs) ++ encode_lower (get_or xs i 0 ∷ [])
unfolding encode_with
bytes-next [] i below = absurd (omega (arith, below))
bytes-next (x ∷ xs) zero below = refl
bytes-next (x ∷ xs) (suc i) below = rw (bytes-next xs i (omega (arith, below))) refl

pub bytes-rest : (xs : List ℕ) (i : ℕ) → i < length xs
    → encode_lower (take i xs) ++ (encode_lower (get_or xs i 0 ∷ []) ++ encode_lower (drop (suc i) xs)) ≡ encode_lower xs
unfolding encode_with
bytes-rest [] i below = absurd (omega (arith, below))
bytes-rest (x ∷ xs) zero below = refl
bytes-rest (x ∷ xs) (suc i) below = rw (bytes-rest xs i (omega (arith, below))) refl

-- ---- what stands before a text

pub address_first : (a c : List ℕ) (e : ℕ) → (a ++ (e ∷ [])) ++ c ≡ a ++ (e ∷ c)
address_first a c e = append_assoc a (e ∷ []) c

pub words_first : (a b c : List ℕ) (e f : ℕ) → (a ++ (e ∷ (b ++ (f ∷ [])))) ++ c ≡ a ++ (e ∷ (b ++ (f ∷ c)))
words_first a b c e f = rw (append_assoc a (e ∷ (b ++ (f ∷ []))) c, append_assoc b (f ∷ []) c) refl

pub digits_first : (a b c : List ℕ) (e f : ℕ) → (e ∷ (a ++ (b ++ (f ∷ [])))) ++ c ≡ e ∷ (a ++ (b ++ (f ∷ c)))
digits_first a b c e f = rw (append_assoc a (b ++ (f ∷ [])) c, append_assoc b (f ∷ []) c) refl
