-- An element with its top bit turned over has the order of the signed number that it stands for, and 2^(SEW-1) more.
use Rattle.std.proofs.Common.{◌≡◌, ℕ, ◌+◌, ◌-◌, ◌*◌, ◌/◌, ◌%◌, ◌^◌, ◌<◌, ◌≤◌, ◌⊎◌, Bool, true, false, ℤ, cond, ltb, leb, pos, negsuc, suc, refl, sym, ap, ◌∙◌, arith, inl, inr, w8, w16, w32, w64, int_lt, int_le, pow_pos, pow-add, mod-eq_of_lt, mod-lt, add-mul, div-add-mod', div-le_self, suc-mul, List, map, replicate, length, ap₂, Fits, lit<, lt_of_mul-lt-mul_right, le-mul_of_pos_right}
use Rattle.std.specs.Int.{Width, w128, cast_signed, cast_unsigned, int_min, int_max, int_shr}
use mir.Val.{bits, hbits, sel}
use Rattle.std.proofs.lemmas.Bool.{cases_lt, lt-ltb, le-ltb, le-leb, lt-leb}
use Rattle.std.proofs.Math.Nat.{add-mod_right, add-mul-div_right, div-eq_of_lt-le, mul-div_left}
use Rattle.std.specs.Simd.Lanes.{zip2}
use lib.Lanes.{Each1}
use Rattle.std.proofs.lemmas.Int.{of_z-to_z}
use Rattle.std.proofs.lemmas.List.{length-map}
use Rattle.lane_int.specs.Chunks.{turned}
use Rattle.lane_int.specs.Integer.{element, shift_amount}
use Rattle.rv_decode.specs.declared.instructions.IntOp.TheVariants.{Sra}
use Rattle.lane_int.proofs.VectorLemmas.{zip2_maps, zip2_splat_of, zip2_agrees}

half : (w : Width) → 2 ^ bits w ≡ 2 ^ hbits w + 2 ^ hbits w
half w8 = refl
half w16 = refl
half w32 = refl
half w64 = refl
half w128 = refl

-- a is not negative, or it is
record IsLow (w : Width) (a : ℕ) : Type 0 where
  pub small : a < 2 ^ hbits w
  pub number : cast_signed w a ≡ pos a
  pub turns : turned w a ≡ a + 2 ^ hbits w

record IsHigh (w : Width) (a : ℕ) : Type 0 where
  pub large : 2 ^ hbits w ≤ a
  pub number : cast_signed w a ≡ negsuc (2 ^ bits w - suc a)
  pub turns : turned w a ≡ a - 2 ^ hbits w

signs : (w : Width) (a : ℕ) → a < 2 ^ bits w → IsLow w a ⊎ IsHigh w a
signs w a fits = elim (cases_lt a (2 ^ hbits w)) [
  | inl small ↦ inl (record {
    small = small;
    number = ap (λ t. sel t (pos a) (negsuc (2 ^ bits w - suc a))) (lt-ltb a (2 ^ hbits w) small);
    turns = mod-eq_of_lt (omega (arith, half w, small));
  })
  | inr large ↦ inr (record {
    large = large;
    number = ap (λ t. sel t (pos a) (negsuc (2 ^ bits w - suc a))) (le-ltb a (2 ^ hbits w) large);
    turns = ap (λ n. n % 2 ^ bits w) (omega (arith, half w, large)) ∙ add-mod_right (a - 2 ^ hbits w) (2 ^ bits w) ∙ mod-eq_of_lt (omega (arith, fits));
  })
]

same_ltb : (a b c d : ℕ) → (a < b → c < d) → (b ≤ a → d ≤ c) → ltb a b ≡ ltb c d
same_ltb a b c d holds fails = elim (cases_lt a b) [
  | inl l ↦ lt-ltb a b l ∙ sym (lt-ltb c d (holds l))
  | inr l ↦ le-ltb a b l ∙ sym (le-ltb c d (fails l))
]

same_leb : (a b c d : ℕ) → (a ≤ b → c ≤ d) → (b < a → d < c) → leb a b ≡ leb c d
same_leb a b c d holds fails = elim (cases_lt b a) [
  | inl l ↦ lt-leb a b l ∙ sym (lt-leb c d (fails l))
  | inr l ↦ le-leb a b l ∙ sym (le-leb c d (holds l))
]

pub less_turned : (w : Width) (a b : ℕ) → a < 2 ^ bits w → b < 2 ^ bits w → ltb (turned w a) (turned w b) ≡ int_lt (cast_signed w a) (cast_signed w b)
less_turned w a b fits_a fits_b = elim (signs w a fits_a) [
  | inl p ↦ elim (signs w b fits_b) [
    | inl q ↦ rw (p.number, q.number, p.turns, q.turns) (same_ltb (a + 2 ^ hbits w) (b + 2 ^ hbits w) a b (λ l. omega (arith, l)) (λ l. omega (arith, l)))
    | inr q ↦ rw (p.number, q.number, p.turns, q.turns) (le-ltb (a + 2 ^ hbits w) (b - 2 ^ hbits w) (omega (arith, half w, fits_b)))
  ]
  | inr p ↦ elim (signs w b fits_b) [
    | inl q ↦ rw (p.number, q.number, p.turns, q.turns) (lt-ltb (a - 2 ^ hbits w) (b + 2 ^ hbits w) (omega (arith, half w, fits_a, p.large)))
    | inr q ↦ rw (p.number, q.number, p.turns, q.turns) (same_ltb (a - 2 ^ hbits w) (b - 2 ^ hbits w) (2 ^ bits w - suc b) (2 ^ bits w - suc a) (λ l. omega (arith, l, fits_a, fits_b, p.large, q.large)) (λ l. omega (arith, l, fits_a, fits_b, p.large, q.large)))
  ]
]

pub less_equal_turned : (w : Width) (a b : ℕ) → a < 2 ^ bits w → b < 2 ^ bits w → leb (turned w a) (turned w b) ≡ int_le (cast_signed w a) (cast_signed w b)
less_equal_turned w a b fits_a fits_b = elim (signs w a fits_a) [
  | inl p ↦ elim (signs w b fits_b) [
    | inl q ↦ rw (p.number, q.number, p.turns, q.turns) (same_leb (a + 2 ^ hbits w) (b + 2 ^ hbits w) a b (λ l. omega (arith, l)) (λ l. omega (arith, l)))
    | inr q ↦ rw (p.number, q.number, p.turns, q.turns) (lt-leb (a + 2 ^ hbits w) (b - 2 ^ hbits w) (omega (arith, half w, fits_b, q.large, pow_pos (hbits w))))
  ]
  | inr p ↦ elim (signs w b fits_b) [
    | inl q ↦ rw (p.number, q.number, p.turns, q.turns) (le-leb (a - 2 ^ hbits w) (b + 2 ^ hbits w) (omega (arith, half w, fits_a, p.large)))
    | inr q ↦ rw (p.number, q.number, p.turns, q.turns) (same_leb (a - 2 ^ hbits w) (b - 2 ^ hbits w) (2 ^ bits w - suc b) (2 ^ bits w - suc a) (λ l. omega (arith, l, fits_a, fits_b, p.large, q.large)) (λ l. omega (arith, l, fits_a, fits_b, p.large, q.large)))
  ]
]

-- a multiple of k less one more than e
pub below_multiple : (q k e : ℕ) → 0 < k → e < q * k → (q * k - suc e) / k ≡ q - suc (e / k)
below_multiple q k e some lt =
    let x = e / k in
    let r = q - suc x in
    let e_is : x * k + e % k ≡ e = div-add-mod' e k in
    let rest : e % k < k = mod-lt e some in
    let x_lt : x < q = lt_of_mul-lt-mul_right k (omega (arith, e_is, lt)) in
    let parts : q ≡ suc x + r = omega (arith, x_lt) in
    let q_is : q * k ≡ suc x * k + r * k = ap (λ n. n * k) parts ∙ add-mul (suc x) r k in
    let x_is : suc x * k ≡ x * k + k = suc-mul x k in
    div-eq_of_lt-le k (omega (arith, e_is, rest, q_is, x_is)) (omega (arith, e_is, rest, q_is, x_is, add-mul r 1 k))

-- what the shift of the turned element comes to, less the shifted top bit
low_shifted : (m h q k a : ℕ) → 0 < k → h ≡ q * k → m ≡ h + h → a < h → ((a + h) / k + (m - q)) % m ≡ a / k
low_shifted m h q k a some whole twice small =
    let moved : (a + h) / k ≡ a / k + q = ap (λ n. (a + n) / k) whole ∙ add-mul-div_right a q some in
    let q_le : q ≤ h = omega (arith, whole, le-mul_of_pos_right q some) in
    let below : a / k ≤ a = div-le_self a k in
    ap (λ n. n % m) (omega (arith, moved, q_le, twice)) ∙ add-mod_right (a / k) m ∙ mod-eq_of_lt (omega (arith, below, small, twice))

high_shifted : (m h q k a : ℕ) → 0 < k → h ≡ q * k → m ≡ h + h → h ≤ a → a < m → ((a - h) / k + (m - q)) % m ≡ m - suc ((m - suc a) / k)
high_shifted m h q k a some whole twice large fits =
    let e = a - h in
    let lt : e < q * k = omega (arith, whole, twice, fits, large) in
    let below : (m - suc a) / k ≡ q - suc (e / k) = ap (λ n. n / k) (omega (arith, whole, twice, fits, large)) ∙ below_multiple q k e some lt in
    let quotient : e / k < q = lt_of_mul-lt-mul_right k (omega (arith, div-add-mod' e k, lt)) in
    let q_le : q ≤ h = omega (arith, whole, le-mul_of_pos_right q some) in
    mod-eq_of_lt (omega (arith, quotient, q_le, twice)) ∙ omega (arith, below, quotient, q_le, twice)

pub shift_turned : (w : Width) (a s : ℕ) → a < 2 ^ bits w → s ≤ hbits w
    → (turned w a / 2 ^ s + (2 ^ bits w - 2 ^ hbits w / 2 ^ s)) % 2 ^ bits w ≡ cast_unsigned w (int_shr (cast_signed w a) s)
shift_turned w a s fits le =
    let q = 2 ^ (hbits w - s) in
    let some : 0 < 2 ^ s = pow_pos s in
    let whole : 2 ^ hbits w ≡ q * 2 ^ s = ap (λ n. 2 ^ n) (omega (arith, le)) ∙ pow-add 2 (hbits w - s) s in
    let top : 2 ^ hbits w / 2 ^ s ≡ q = ap (λ n. n / 2 ^ s) whole ∙ mul-div_left q some in
    elim (signs w a fits) [
      | inl p ↦ rw (p.number, p.turns, top) (low_shifted (2 ^ bits w) (2 ^ hbits w) q (2 ^ s) a some whole (half w) p.small)
      | inr p ↦ rw (p.number, p.turns, top) (high_shifted (2 ^ bits w) (2 ^ hbits w) q (2 ^ s) a some whole (half w) p.large fits)
    ]

chosen : (w : Width) (t : Bool) (y x : ℤ) → cond t (cast_unsigned w y) (cast_unsigned w x) ≡ cast_unsigned w (cond t y x)
chosen w true y x = refl
chosen w false y x = refl

-- b where it is turned below a, else a, and the other of the two
pub least_turned : (w : Width) (a b : ℕ) → a < 2 ^ bits w → b < 2 ^ bits w → cond (ltb (turned w b) (turned w a)) b a ≡ cast_unsigned w (int_min (cast_signed w a) (cast_signed w b))
least_turned w a b p q = ap₂ (λ n m. cond (ltb (turned w b) (turned w a)) n m) (sym (of_z-to_z w b q)) (sym (of_z-to_z w a p)) ∙ rw (less_turned w b a q p) (chosen w (int_lt (cast_signed w b) (cast_signed w a)) (cast_signed w b) (cast_signed w a))

pub greatest_turned : (w : Width) (a b : ℕ) → a < 2 ^ bits w → b < 2 ^ bits w → cond (ltb (turned w b) (turned w a)) a b ≡ cast_unsigned w (int_max (cast_signed w a) (cast_signed w b))
greatest_turned w a b p q = ap₂ (λ n m. cond (ltb (turned w b) (turned w a)) n m) (sym (of_z-to_z w a p)) (sym (of_z-to_z w b q)) ∙ rw (less_turned w b a q p) (chosen w (int_lt (cast_signed w b) (cast_signed w a)) (cast_signed w a) (cast_signed w b))

-- turned lanes that are shifted, less the shifted top bits
below_width : (w : Width) (b : ℕ) → shift_amount w b ≤ hbits w
below_width w8 b = let low : b % 8 < 8 = mod-lt b (lit< tt) in omega (arith, low)
below_width w16 b = let low : b % 16 < 16 = mod-lt b (lit< tt) in omega (arith, low)
below_width w32 b = let low : b % 32 < 32 = mod-lt b (lit< tt) in omega (arith, low)
below_width w64 b = let low : b % 64 < 64 = mod-lt b (lit< tt) in omega (arith, low)
below_width w128 b = let low : b % 128 < 128 = mod-lt b (lit< tt) in omega (arith, low)

pub shifted_lanes : (w : Width) (n : ℕ) {us amounts : List ℕ} (xs ys : List ℕ) → us ≡ map (turned w) xs → amounts ≡ map (shift_amount w) ys → length ys ≡ n → Each1 (Fits w) xs → Each1 (Fits w) ys
    → zip2 (λ a b. (a + (2 ^ bits w - b)) % 2 ^ bits w) (zip2 (λ a s. a / 2 ^ s) us amounts) (zip2 (λ a s. a / 2 ^ s) (replicate n (2 ^ hbits w)) amounts) ≡ zip2 (element Sra w) xs ys
unfolding element
shifted_lanes w n {us} {amounts} xs ys e f long fits_x fits_y =
    let shift = λ (a s : ℕ). a / 2 ^ s in
    let less = λ (a b : ℕ). (a + (2 ^ bits w - b)) % 2 ^ bits w in
    zip2_splat_of less shift shift n (2 ^ hbits w) us amounts (ap length f ∙ length-map ys (shift_amount w) ∙ long)
    ∙ ap₂ (zip2 (λ a s. less (shift a s) (shift (2 ^ hbits w) s))) e f
    ∙ zip2_maps (λ a s. less (shift a s) (shift (2 ^ hbits w) s)) (turned w) (shift_amount w) xs ys
    ∙ zip2_agrees w xs ys (λ a b p q. shift_turned w a (shift_amount w b) p (below_width w b)) fits_x fits_y
