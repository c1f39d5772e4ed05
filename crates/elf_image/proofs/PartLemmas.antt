-- Parts of a file that is made of pieces, and the numbers that stand in them.
use Rattle.std.proofs.Common.{◌≡◌, ℕ, zero, suc, ◌+◌, ◌-◌, ◌<◌, ◌≤◌, ◌⊎◌, inl, inr, refl, sym, ap, ◌∙◌, arith, List, [], ◌∷◌, ◌++◌, length, take, drop, map}
use Rattle.std.proofs.lemmas.List.{drop-append-le, get_or-drop, take-append-le, length-drop}
use Rattle.std.proofs.Math.Seq.{drop-append-add}
use Rattle.std.specs.List.{range_with_len, slice_index}
use Rattle.byteorder.specs.Endian.{little_number}
use Rattle.elf_image.specs.Words.{half_at, word_at, half, word}

-- a part that lies in the first piece
pub first_piece : (o n : ℕ) (xs ys : List ℕ) → (0 < n → o + n ≤ length xs) → take n (drop o (xs ++ ys)) ≡ take n (drop o xs)
first_piece o zero xs ys l = refl
first_piece o (suc n) xs ys l =
    let all : o + suc n ≤ length xs = l (omega arith) in
    ap (take (suc n)) (drop-append-le o xs ys (omega arith))
    ∙ take-append-le (suc n) (drop o xs) ys (omega (arith, length-drop o xs))

-- what lies behind the first piece
pub behind_piece : (o k : ℕ) (xs ys : List ℕ) → o ≡ length xs + k → drop o (xs ++ ys) ≡ drop k ys
behind_piece o k xs ys e = ap (λ (o : ℕ). drop o (xs ++ ys)) e ∙ drop-append-add xs ys k

-- a part that has no bytes, or none among a number of them from an offset on
abbrev pub IsBeside : ℕ → ℕ → ℕ → ℕ → Type 0
IsBeside from size o n = (n ≡ 0) ⊎ ((o + n ≤ from) ⊎ (from + size ≤ o))

-- it is the same where other bytes stand there
pub beside_piece : (o n : ℕ) (pre old new post : List ℕ) → length new ≡ length old → IsBeside (length pre) (length old) o n
    → take n (drop o (pre ++ (new ++ post))) ≡ take n (drop o (pre ++ (old ++ post)))
beside_piece o n pre old new post same (inl none) = rw none refl
beside_piece o n pre old new post same (inr (inl before)) =
    first_piece o n pre (new ++ post) (λ _. before) ∙ sym (first_piece o n pre (old ++ post) (λ _. before))
beside_piece o n pre old new post same (inr (inr after)) =
    let k = o - (length pre + length old) in
    let inner = length old + k in
    let at_old : o ≡ length pre + inner = omega arith in
    let in_new : inner ≡ length new + k = omega arith in
    ap (take n) (behind_piece o inner pre (new ++ post) at_old ∙ behind_piece inner k new post in_new)
    ∙ sym (ap (take n) (behind_piece o inner pre (old ++ post) at_old ∙ behind_piece inner k old post refl))

two : (xs : List ℕ) → little_number 2 (take 2 xs) ≡ little_number 2 xs
two [] = refl
two (a ∷ []) = refl
two (a ∷ b ∷ xs) = refl

four : (xs : List ℕ) → little_number 4 (take 4 xs) ≡ little_number 4 xs
four [] = refl
four (a ∷ []) = refl
four (a ∷ b ∷ []) = refl
four (a ∷ b ∷ c ∷ []) = refl
four (a ∷ b ∷ c ∷ d ∷ xs) = refl

-- numbers are the same where their bytes are
pub same_half : (o p : ℕ) (xs ys : List ℕ) → take 2 (drop o xs) ≡ take 2 (drop p ys) → half_at o xs ≡ half_at p ys
unfolding half_at
same_half o p xs ys e = sym (two (drop o xs)) ∙ ap (little_number 2) e ∙ two (drop p ys)

pub same_word : (o p : ℕ) (xs ys : List ℕ) → take 4 (drop o xs) ≡ take 4 (drop p ys) → word_at o xs ≡ word_at p ys
unfolding word_at
same_word o p xs ys e = sym (four (drop o xs)) ∙ ap (little_number 4) e ∙ four (drop p ys)

-- a number is read back from its bytes
pub half_there : (o n : ℕ) (xs ys : List ℕ) → n < 65536 → drop o xs ≡ half n ++ ys → half_at o xs ≡ n
unfolding half_at half
half_there o n xs ys l e = ap (little_number 2) e ∙ omega (arith, l)

pub word_there : (o n : ℕ) (xs ys : List ℕ) → n < 4294967296 → drop o xs ≡ word n ++ ys → word_at o xs ≡ n
unfolding word_at word
word_there o n xs ys l e = ap (little_number 4) e ∙ omega (arith, l)

-- two functions that agree on a range
pub same_on_range : {X : Type 0} (f g : ℕ → X) → (a n : ℕ) → ((i : ℕ) → a ≤ i → i < a + n → f i ≡ g i) → map f (range_with_len a n) ≡ map g (range_with_len a n)
same_on_range f g a zero e = refl
same_on_range f g a (suc n) e =
    let here : f a ≡ g a = e a (omega arith) (omega arith) in
    rw (here, same_on_range f g (a + 1) n (λ i l m. e i (omega arith) (omega arith))) refl

one : (xs : List ℕ) → slice_index (take 1 xs) 0 ≡ slice_index xs 0
one [] = refl
one (a ∷ xs) = refl

pub same_byte : (o : ℕ) (xs ys : List ℕ) → take 1 (drop o xs) ≡ take 1 (drop o ys) → slice_index xs o ≡ slice_index ys o
same_byte o xs ys e =
    let there : (xs : List ℕ) → slice_index (take 1 (drop o xs)) 0 ≡ slice_index xs o = λ xs. one (drop o xs) ∙ get_or-drop o xs 0 0 ∙ ap (slice_index xs) (omega arith) in
    sym (there xs) ∙ ap (λ (bs : List ℕ). slice_index bs 0) e ∙ there ys
