-- A word as text: four bytes of two digits each are the same as eight digits with zeros before.
use Rattle.std.proofs.Common.{◌≡◌, ◌∙◌, ◌==◌, ◌&&◌, ◌*◌, ◌+◌, ◌-◌, ◌/◌, ◌%◌, ◌^◌, ◌<◌, ◌≤◌, Bool, List, [], ◌∷◌, ◌++◌, ap, arith, eq-eqb, false, inl, inr, length, ne_eqb, pow-suc, refl, replicate, slice_index, suc, sym, true, zero, ℕ}
use Rattle.std.proofs.lemmas.Bool.{and_parts, cases_eq, cases_lt, eqb-true}
use Rattle.std.specs.Fmt.{digit_glyph, digits, digits_onto}
use Rattle.hex.specs.Hex.{encode_with, lower_digits}
use Rattle.region_mem.specs.Digits.{digits_text, filled}
use Rattle.rv_listing.specs.Pieces.{word_text}

-- ---- the table of digits

-- whether the first k digits of the table are those that `{:x}` writes
abbrev glyphs_agree : ℕ → Bool
glyphs_agree zero = true
glyphs_agree (suc k) = (slice_index lower_digits k == digit_glyph false k) && glyphs_agree k

glyph_below : (k d : ℕ) → glyphs_agree k ≡ true → d < k
    → slice_index lower_digits d ≡ digit_glyph false d
glyph_below zero d h lt = absurd (omega arith)
glyph_below (suc k) d h lt =
    let parts = and_parts (slice_index lower_digits k == digit_glyph false k) (glyphs_agree k) h in
    elim (cases_lt d k) [
      | inl below ↦ glyph_below k d parts.1 below
      | inr top ↦
          let e : d ≡ k = omega arith in
          rw e (eqb-true (slice_index lower_digits k) (digit_glyph false k) parts.0)
    ]

glyph : (d : ℕ) → d < 16 → slice_index lower_digits d ≡ digit_glyph false d
glyph d lt = glyph_below 16 d refl lt

-- ---- a given number of digits

-- the last k digits of n, followed by acc
abbrev fixed : ℕ → ℕ → List ℕ → List ℕ
fixed zero n acc = acc
fixed (suc k) n acc = fixed k (n / 16) (digit_glyph false (n % 16) ∷ acc)

zeros_before : (k : ℕ) (acc : List ℕ) → replicate k 48 ++ 48 ∷ acc ≡ replicate (suc k) 48 ++ acc
zeros_before zero acc = refl
zeros_before (suc k) acc = ap (λ xs. 48 ∷ xs) (zeros_before k acc)

fixed_zero : (k : ℕ) (acc : List ℕ) → fixed k 0 acc ≡ replicate k 48 ++ acc
fixed_zero zero acc = refl
fixed_zero (suc k) acc = fixed_zero k (48 ∷ acc) ∙ zeros_before k acc

onto_last : (fuel n : ℕ) (acc : List ℕ) → n / 16 ≡ 0
    → digits_onto (suc fuel) 16 false n acc ≡ digit_glyph false (n % 16) ∷ acc
onto_last fuel n acc e = rw (eq-eqb (n / 16) 0 e) refl

onto_step : (fuel n : ℕ) (acc : List ℕ) → (n / 16 ≡ 0 → ⊥)
    → digits_onto (suc fuel) 16 false n acc
    ≡ digits_onto fuel 16 false (n / 16) (digit_glyph false (n % 16) ∷ acc)
onto_step fuel n acc e = rw (ne_eqb (n / 16) 0 e) refl

some_digit : (k n : ℕ) → n < 16 ^ k → (n ≡ 0 → ⊥) → 0 < k
some_digit zero n small more = absurd (more (omega arith))
some_digit (suc k) n small more = omega arith

one_fewer : (k n : ℕ) → n < 16 ^ suc k → n / 16 < 16 ^ k
one_fewer k n small = let power : 16 ^ suc k ≡ 16 ^ k * 16 = pow-suc 16 k in omega arith

length_onto : (k fuel n : ℕ) (acc : List ℕ) → 0 < k → k ≤ fuel → n < 16 ^ k
    → length (digits_onto fuel 16 false n acc) ≤ k + length acc
length_onto zero fuel n acc some le small = absurd (omega arith)
length_onto (suc k) zero n acc some le small = absurd (omega arith)
length_onto (suc k) (suc fuel) n acc some le small =
    elim (cases_eq (n / 16) 0) [
      | inl last ↦ omega (arith, ap length (onto_last fuel n acc last))
      | inr more ↦
          let next = digit_glyph false (n % 16) ∷ acc in
          let less : n / 16 < 16 ^ k = one_fewer k n small in
          let left : 0 < k = some_digit k (n / 16) less more in
          let fuelled : k ≤ fuel = omega arith in
          let rest = length_onto k fuel (n / 16) next left fuelled less in
          omega (arith, ap length (onto_step fuel n acc more), rest)
    ]

-- zeros before the digits of n, so that there are k with those that follow n
filled_onto : (k fuel n m : ℕ) (acc : List ℕ) → 0 < k → k ≤ fuel → n < 16 ^ k
    → m + length (digits_onto fuel 16 false n acc) ≡ k + length acc
    → replicate m 48 ++ digits_onto fuel 16 false n acc ≡ fixed k n acc
filled_onto zero fuel n m acc some le small long = absurd (omega arith)
filled_onto (suc k) zero n m acc some le small long = absurd (omega arith)
filled_onto (suc k) (suc fuel) n m acc some le small long =
    let next = digit_glyph false (n % 16) ∷ acc in
    elim (cases_eq (n / 16) 0) [
      | inl last ↦
          let shown = onto_last fuel n acc last in
          let count : m ≡ k = omega (arith, ap length shown, long) in
          ap (λ ds. replicate m 48 ++ ds) shown
          ∙ ap (λ j. replicate j 48 ++ next) count
          ∙ sym (fixed_zero k next)
          ∙ ap (λ j. fixed k j next) (sym last)
      | inr more ↦
          let shown = onto_step fuel n acc more in
          let less : n / 16 < 16 ^ k = one_fewer k n small in
          let left : 0 < k = some_digit k (n / 16) less more in
          let fuelled : k ≤ fuel = omega arith in
          let count : m + length (digits_onto fuel 16 false (n / 16) next) ≡ k + length next =
          omega (arith, ap length shown, long) in
          ap (λ ds. replicate m 48 ++ ds) shown
          ∙ filled_onto k fuel (n / 16) m next left fuelled less count
    ]

-- ---- eight digits

filled_eight : (fuel n : ℕ) → 8 ≤ fuel → n < 2 ^ 32
    → filled (digits_onto fuel 16 false n []) ≡ fixed 8 n []
filled_eight fuel n le small =
    let most = length_onto 8 fuel n [] (omega arith) le small in
    filled_onto 8 fuel n (8 - length (digits_onto fuel 16 false n [])) [] (omega arith) le small
    (omega (arith, most))

onto_of_digits : (n : ℕ) → digits 16 false n ≡ digits_onto 64 16 false n []
unfolding digits
onto_of_digits n = refl

-- the two digits of a byte
high : (x y : ℕ) → x ≡ y
    → slice_index lower_digits (x % 256 / 16) ≡ digit_glyph false (y / 16 % 16)
high x y e = glyph (x % 256 / 16) (omega arith) ∙ ap (digit_glyph false) (omega (arith, e))

low : (x y : ℕ) → x ≡ y → slice_index lower_digits (x % 256 % 16) ≡ digit_glyph false (y % 16)
low x y e = glyph (x % 256 % 16) (omega arith) ∙ ap (digit_glyph false) (omega (arith, e))

byte_below : (x : ℕ) → x / 256 ≡ x / 16 / 16
byte_below x = omega arith

by_bytes : (n : ℕ) → word_text n ≡ fixed 8 n []
unfolding encode_with
by_bytes n =
    let one : n / 256 ≡ n / 16 / 16 = byte_below n in
    let two : n / 65536 ≡ n / 16 / 16 / 16 / 16 =
    omega (arith, one, byte_below (n / 16 / 16)) in
    let three : n / 16777216 ≡ n / 16 / 16 / 16 / 16 / 16 / 16 =
    omega (arith, two, byte_below (n / 16 / 16 / 16 / 16)) in
    λ i.
    high _ _ three i
    ∷ low _ _ three i
    ∷ high _ _ two i
    ∷ low _ _ two i
    ∷ high _ _ one i
    ∷ low _ _ one i
    ∷ high n n refl i
    ∷ low n n refl i
    ∷ []

pub word_digits : (n : ℕ) → n < 2 ^ 32 → word_text n ≡ digits_text n
word_digits n h =
    by_bytes n ∙ sym (filled_eight 64 n (omega arith) h) ∙ ap filled (sym (onto_of_digits n))
