-- Rounding in one lane, as numbers: what is left, what the bits that are lost held, and where 1 more is added.
use Rattle.std.proofs.Common.{◌≡◌, ℕ, ◌+◌, ◌-◌, ◌*◌, ◌/◌, ◌%◌, ◌^◌, ◌<◌, ◌≤◌, ◌==◌, not, ◌&&◌, ◌||◌, nat_lt, ℤ, pos, negsuc, ◌+ℤ◌, ◌-ℤ◌, refl, ap, sym, ◌∙◌, suc, arith, w8, w16, w32, w64}
use Rattle.std.specs.Int.{Width, cast_signed, from_bool}
use Rattle.std.specs.Ordering.{int_eq}
use Rattle.std.specs.Int.RustNames.{bit_and, bit_xor}
use Rattle.std.specs.Int.Bits.{xor_add_and}
use mir.Syntax.{w128}
use mir.Val.{bits, hbits}
use mathlib.Core.Bool.{cond}
use Rattle.std.proofs.lemmas.Int.{ints}
use Rattle.std.proofs.lemmas.Nat.{and_mask, pow_pos, mul-le, div-add-mod', mod_below, div_below, div-mul-add, mod-mul-add, pow-add}
use Rattle.std.proofs.Math.Nat.{add-mul-div_right, add-mul-mod_self_right, mul-div_left, mod-add-mod, mod-eq_of_lt}
use Rattle.std.proofs.Math.Pow.{pow-lt}
use Rattle.std.proofs.lemmas.Bool.{cases_lt, lt-ltb, le-ltb}
use Rattle.std.proofs.lemmas.Bool.Decides.{Decides-int_eq, eqb_tells, leb_tells}
use mathlib.Core.Logic.{inl, inr}
use Rattle.lane_fixed.specs.Rounding.{rounded, rounds_up, shifted, low_bits}
use Rattle.lane_fixed.specs.declared.operations.RoundingMode.{RoundingMode}
use Rattle.lane_fixed.specs.declared.operations.RoundingMode.TheVariants.{NearestUp, NearestEven, Down, Odd}
use Rattle.lane_fixed.specs.FixedPoint.{element, saturates, clipped, unclipped, exact, dropped}
use Rattle.lane_fixed.specs.Chunks.{lane_result}
use Rattle.rv_decode.specs.declared.instructions.FixedOp.{FixedOp}
use Rattle.lane_fixed.specs.declared.operations.Op.TheVariants.{Aaddu, Aadd, Asubu, Asub, Ssrl, Ssra}
use Rattle.lane_fixed.proofs.ChunkLemmas.{low_of, signed_is, twice}
use Rattle.lane_fixed.proofs.RoundingLemmas.{complement}

-- the quotient of a number that j times the divisor makes natural
pub shifted_of : (d j m : ℕ) (v : ℤ) → v +ℤ pos (j * 2 ^ d) ≡ pos m → shifted d v +ℤ pos j ≡ pos (m / 2 ^ d)
unfolding shifted
shifted_of d j m (pos a) e =
    let whole : m ≡ a + j * 2 ^ d = omega (arith, ints, e) in
    let parts : m / 2 ^ d ≡ a / 2 ^ d + j = ap (λ n. n / 2 ^ d) whole ∙ add-mul-div_right a j (pow_pos d) in
    omega (arith, ints, parts)
shifted_of d j m (negsuc a) e =
    let whole : m ≡ j * 2 ^ d - suc a = omega (arith, ints, e) in
    let less : a < j * 2 ^ d = omega (arith, ints, e) in
    let quotient : a / 2 ^ d < j = div_below a (2 ^ d) j (pow_pos d) less in
    let rest : a % 2 ^ d < 2 ^ d = mod_below a (2 ^ d) (pow_pos d) in
    let parts : m / 2 ^ d ≡ j - 1 - a / 2 ^ d = ap (λ n. n / 2 ^ d) (whole ∙ complement (2 ^ d) j a (a / 2 ^ d) (a % 2 ^ d) (div-add-mod' a (2 ^ d)) rest quotient) ∙ div-mul-add (j - 1 - a / 2 ^ d) (2 ^ d) (2 ^ d - 1 - a % 2 ^ d) (omega (arith, rest)) in
    omega (arith, ints, parts, quotient)

-- each number becomes natural by some of 2^k
record Made (k : ℕ) (q : ℤ) : Type 0 where
  pub times : ℕ
  pub number : ℕ
  pub is : q +ℤ pos (times * 2 ^ k) ≡ pos number

made : (k : ℕ) (q : ℤ) → Made k q
made k (pos a) = record { times = 0; number = a; is = omega (arith, ints) }
made k (negsuc a) =
    let enough : suc a * 1 ≤ suc a * 2 ^ k = mul-le (suc a) 1 (suc a) (2 ^ k) (omega arith) (pow_pos k) in
    record { times = suc a; number = suc a * 2 ^ k - suc a; is = omega (arith, ints, enough) }

pub low_fits : (k : ℕ) (q : ℤ) → low_bits k q < 2 ^ k
low_fits k q = let n = made k q in rw (low_of k q n.times n.number n.is) (mod_below n.number (2 ^ k) (pow_pos k))

-- the lowest bit of a lane is that of the number
halved : (w : Width) (j : ℕ) → j * 2 ^ hbits w * 2 ^ 1 ≡ j * 2 ^ bits w
halved w j = rw (twice w) (grind arith)

low_one : (w : Width) (q : ℤ) → low_bits 1 (pos (low_bits (bits w) q)) ≡ low_bits 1 q
low_one w q =
    let n = made (bits w) q in
    let lane : low_bits (bits w) q ≡ n.number % 2 ^ bits w = low_of (bits w) q n.times n.number n.is in
    let k = n.number / 2 ^ bits w in
    let whole : k * 2 ^ bits w + n.number % 2 ^ bits w ≡ n.number = div-add-mod' n.number (2 ^ bits w) in
    let a : low_bits 1 (pos (n.number % 2 ^ bits w)) ≡ n.number % 2 ^ 1 = low_of 1 (pos (n.number % 2 ^ bits w)) (k * 2 ^ hbits w) n.number (omega (arith, ints, halved w k, whole)) in
    let b : low_bits 1 q ≡ n.number % 2 ^ 1 = low_of 1 q (n.times * 2 ^ hbits w) n.number (omega (arith, ints, halved w n.times, n.is)) in
    ap (λ z. low_bits 1 (pos z)) lane ∙ a ∙ sym b

low_plus : (w : Width) (q : ℤ) (b : ℕ) → (low_bits (bits w) q + b) % 2 ^ bits w ≡ low_bits (bits w) (q +ℤ pos b)
low_plus w q b =
    let n = made (bits w) q in
    let lane : low_bits (bits w) q ≡ n.number % 2 ^ bits w = low_of (bits w) q n.times n.number n.is in
    let more : low_bits (bits w) (q +ℤ pos b) ≡ (n.number + b) % 2 ^ bits w = low_of (bits w) (q +ℤ pos b) n.times (n.number + b) (omega (arith, ints, n.is)) in
    ap (λ z. (z + b) % 2 ^ bits w) lane ∙ mod-add-mod n.number (2 ^ bits w) b ∙ sym more

same_way : (w : Width) (mode : RoundingMode) (q : ℤ) (r d : ℕ) → rounds_up mode (pos (low_bits (bits w) q)) r d ≡ rounds_up mode q r d
unfolding rounds_up
same_way w NearestUp q r d = refl
same_way w NearestEven q r d = rw (low_one w q) refl
same_way w Down q r d = refl
same_way w Odd q r d = rw (low_one w q) refl

-- a lane that is rounded from what is left in it
pub rounded_lane : (w : Width) (mode : RoundingMode) (d : ℕ) (v : ℤ) (f r : ℕ) → f ≡ low_bits (bits w) (shifted d v) → r ≡ low_bits d v → (f + from_bool (rounds_up mode (pos f) r d)) % 2 ^ bits w ≡ low_bits (bits w) (rounded mode v d)
unfolding rounded
rounded_lane w mode d v f r is_left is_rest =
    rw (is_left, is_rest, same_way w mode (shifted d v) (low_bits d v) d) (low_plus w (shifted d v) (from_bool (rounds_up mode (shifted d v) (low_bits d v) d)))

-- where 1 more is added
pub at_half_is : (m p r e : ℕ) → r < p → e ≤ 1 → p < m → cond (nat_lt ((p + (m - r)) % m) ((r + e) % m)) 1 0 ≡ from_bool (nat_lt p (2 * r + e))
at_half_is m p r e below few lp =
    let whole : p + (m - r) ≡ 1 * m + (p - r) = omega (arith, below, lp) in
    let left : (p + (m - r)) % m ≡ p - r = ap (λ n. n % m) whole ∙ mod-mul-add 1 m (p - r) (omega (arith, lp)) in
    let right : (r + e) % m ≡ r + e = mod-eq_of_lt (omega (arith, below, few, lp)) in
    rw (left, right) (elim (cases_lt p (2 * r + e)) [
      | inl l ↦ rw (lt-ltb p (2 * r + e) l, lt-ltb (p - r) (r + e) (omega (arith, l, below))) refl
      | inr l ↦ rw (le-ltb p (2 * r + e) l, le-ltb (p - r) (r + e) (omega (arith, l, below))) refl
    ])

odd_of : (f : ℕ) → low_bits 1 (pos f) ≡ f % 2
unfolding low_bits
odd_of f = refl

pub odd_is : (f : ℕ) → bit_and f 1 ≡ f % 2
odd_is f = and_mask f 1

pub up_nearest : (f r d : ℕ) → from_bool (nat_lt (2 ^ d) (2 * r + 1)) ≡ from_bool (rounds_up NearestUp (pos f) r d)
unfolding rounds_up
up_nearest f r d = elim (leb_tells (2 ^ d) (2 * r)) [
  | inl h ↦ rw (h.0, lt-ltb (2 ^ d) (2 * r + 1) (omega (arith, h.1))) refl
  | inr h ↦ rw (h.0, le-ltb (2 ^ d) (2 * r + 1) (omega (arith, h.1))) refl
]

even_way : (p r o : ℕ) → o ≤ 1 → from_bool (nat_lt p (2 * r + o)) ≡ from_bool (nat_lt p (2 * r) || ((p == 2 * r) && (o == 1)))
even_way p r o few = elim (cases_lt p (2 * r)) [
  | inl l ↦ rw (lt-ltb p (2 * r) l, lt-ltb p (2 * r + o) (omega (arith, l))) refl
  | inr l ↦ rw (le-ltb p (2 * r) l) (elim (eqb_tells p (2 * r)) [
    | inl e ↦ rw (e.0) (elim (eqb_tells o 1) [
      | inl h ↦ rw (h.0, lt-ltb p (2 * r + o) (omega (arith, e.1, h.1))) refl
      | inr h ↦ rw (h.0, le-ltb p (2 * r + o) (omega (arith, e.1, h.1, few))) refl
    ])
    | inr e ↦ rw (e.0, le-ltb p (2 * r + o) (omega (arith, e.1, l, few))) refl
  ])
]

odd_way : (m r o : ℕ) → o ≤ 1 → 2 ≤ m → cond (r == 0) 0 ((1 + (m - o)) % m) ≡ from_bool (not (r == 0) && not (o == 1))
odd_way m r o few some = elim (eqb_tells r 0) [
  | inl e ↦ rw (e.0) refl
  | inr e ↦ rw (e.0) (elim (eqb_tells o 1) [
    | inl h ↦ let whole : 1 + (m - o) ≡ 1 * m + 0 = omega (arith, h.1, some) in rw (h.0) (ap (λ n. n % m) whole ∙ mod-mul-add 1 m 0 (omega (arith, some)))
    | inr h ↦ let whole : 1 + (m - o) ≡ 1 * m + 1 = omega (arith, h.1, few) in rw (h.0) (ap (λ n. n % m) whole ∙ mod-mul-add 1 m 1 (omega (arith, some)))
  ])
]

pub bit_few : (f : ℕ) → f % 2 ≤ 1
bit_few f = omega (arith, mod_below f 2 (omega arith))

pub up_even : (f r d : ℕ) → from_bool (nat_lt (2 ^ d) (2 * r + f % 2)) ≡ from_bool (rounds_up NearestEven (pos f) r d)
unfolding rounds_up
up_even f r d = rw (odd_of f) (even_way (2 ^ d) r (f % 2) (bit_few f))

pub up_odd : (m f r d : ℕ) → 2 ≤ m → cond (r == 0) 0 ((1 + (m - f % 2)) % m) ≡ from_bool (rounds_up Odd (pos f) r d)
unfolding rounds_up
up_odd m f r d some = rw (odd_of f) (odd_way m r (f % 2) (bit_few f) some)

-- averages
pub two_bits : (w : Width) → 1 < bits w
two_bits w8 = omega arith
two_bits w16 = omega arith
two_bits w32 = omega arith
two_bits w64 = omega arith
two_bits w128 = omega arith

pub two_most : (w : Width) → 2 ≤ 2 ^ bits w
two_most w = omega (arith, pow-lt (two_bits w))

pub top_fits : (w : Width) → 2 ^ hbits w < 2 ^ bits w
top_fits w = omega (arith, twice w, pow_pos (hbits w))

one_bit : (w : Width) → 1 % bits w ≡ 1
one_bit w8 = refl
one_bit w16 = refl
one_bit w32 = refl
one_bit w64 = refl
one_bit w128 = refl

pub power_of_average : (w : Width) → 2 ^ (1 % bits w) ≡ 2 ^ 1
power_of_average w = ap (λ d. 2 ^ d) (one_bit w)

average_sum : (a b : ℕ) → (bit_and a b + bit_xor a b / 2 ≡ (a + b) / 2) × (bit_xor a b % 2 ≡ (a + b) % 2)
average_sum a b =
    let half : (a + b) / 2 ≡ bit_xor a b / 2 + bit_and a b = ap (λ n. n / 2) (sym (xor_add_and a b)) ∙ add-mul-div_right (bit_xor a b) (bit_and a b) (pow_pos 1) in
    let lost : (a + b) % 2 ≡ bit_xor a b % 2 = ap (λ n. n % 2) (sym (xor_add_and a b)) ∙ add-mul-mod_self_right (bit_xor a b) (bit_and a b) 2 in
    (omega (arith, half), sym lost)

pub average_floor : (w : Width) (a b l : ℕ) → l < 2 ^ bits w → ((bit_and a b + bit_xor a b / 2 ^ (1 % bits w)) % 2 ^ bits w + (2 ^ bits w - l)) % 2 ^ bits w ≡ low_bits (bits w) (shifted 1 (pos (a + b) -ℤ pos (l * 2)))
average_floor w a b l fits =
    let v : ℤ = pos (a + b) -ℤ pos (l * 2) in
    let s : shifted 1 v +ℤ pos l ≡ pos ((a + b) / 2 ^ 1) = shifted_of 1 l (a + b) v (omega (arith, ints)) in
    let low = low_of (bits w) (shifted 1 v) 1 ((a + b) / 2 + (2 ^ bits w - l)) (omega (arith, ints, s, fits)) in
    rw (power_of_average w, (average_sum a b).0) (mod-add-mod ((a + b) / 2) (2 ^ bits w) (2 ^ bits w - l) ∙ sym low)

pub average_rest : (a b l : ℕ) → bit_and (bit_xor a b) 1 ≡ low_bits 1 (pos (a + b) -ℤ pos (l * 2))
average_rest a b l = odd_is (bit_xor a b) ∙ (average_sum a b).1 ∙ sym (low_of 1 (pos (a + b) -ℤ pos (l * 2)) l (a + b) (omega (arith, ints)))

-- scaling shifts
pub scaled_floor : (w : Width) (a l j d : ℕ) → l < 2 ^ bits w → l ≡ j * 2 ^ d → (a / 2 ^ d + (2 ^ bits w - l / 2 ^ d)) % 2 ^ bits w ≡ low_bits (bits w) (shifted d (pos a -ℤ pos l))
scaled_floor w a l j d fits is =
    let v : ℤ = pos a -ℤ pos l in
    let s : shifted d v +ℤ pos j ≡ pos (a / 2 ^ d) = shifted_of d j a v (omega (arith, ints, is)) in
    let less : l / 2 ^ d ≡ j = ap (λ n. n / 2 ^ d) is ∙ mul-div_left j (pow_pos d) in
    let few : j * 1 ≤ j * 2 ^ d = mul-le j 1 j (2 ^ d) (omega arith) (pow_pos d) in
    rw less (sym (low_of (bits w) (shifted d v) 1 (a / 2 ^ d + (2 ^ bits w - j)) (omega (arith, ints, s, few, is, fits))))

pub scaled_rest : (w : Width) (a l j d : ℕ) → d < bits w → l ≡ j * 2 ^ d → bit_and a ((2 ^ d + (2 ^ bits w - 1)) % 2 ^ bits w) ≡ low_bits d (pos a -ℤ pos l)
scaled_rest w a l j d lt is =
    let some = pow_pos d in
    let below : 2 ^ d < 2 ^ bits w = pow-lt lt in
    let whole : 2 ^ d + (2 ^ bits w - 1) ≡ 1 * 2 ^ bits w + (2 ^ d - 1) = omega (arith, some, below) in
    let mask : (2 ^ d + (2 ^ bits w - 1)) % 2 ^ bits w ≡ 2 ^ d - 1 = ap (λ n. n % 2 ^ bits w) whole ∙ mod-mul-add 1 (2 ^ bits w) (2 ^ d - 1) (omega (arith, below, some)) in
    rw mask (and_mask a d ∙ sym (low_of d (pos a -ℤ pos l) j a (omega (arith, ints, is))))

-- the operations; x and y are signed lanes with their top bits turned over
pub average_add_u : (w : Width) (mode : RoundingMode) (a b z : ℕ) → z ≡ 0 → low_bits (bits w) (rounded mode (pos (a + b) -ℤ pos (z * 2)) 1) ≡ lane_result (Aaddu mode) w a b
unfolding element clipped unclipped exact dropped
average_add_u w mode a b z is = let e : pos (a + b) -ℤ pos (z * 2) ≡ pos a +ℤ pos b = omega (arith, ints, is) in ap (λ v. low_bits (bits w) (rounded mode v 1)) e

pub average_add : (w : Width) (mode : RoundingMode) (a b x y z : ℕ) → a < 2 ^ bits w → b < 2 ^ bits w → x ≡ (a + 2 ^ hbits w) % 2 ^ bits w → y ≡ (b + 2 ^ hbits w) % 2 ^ bits w → z ≡ 2 ^ hbits w → low_bits (bits w) (rounded mode (pos (x + y) -ℤ pos (z * 2)) 1) ≡ lane_result (Aadd mode) w a b
unfolding element clipped unclipped exact dropped
average_add w mode a b x y z la lb is_x is_y is =
    let e : pos (x + y) -ℤ pos (z * 2) ≡ cast_signed w a +ℤ cast_signed w b = omega (arith, ints, signed_is w a la, signed_is w b lb, is_x, is_y, is) in
    ap (λ v. low_bits (bits w) (rounded mode v 1)) e

pub average_sub_u : (w : Width) (mode : RoundingMode) (a b : ℕ) → low_bits (bits w) (rounded mode (pos (a + b) -ℤ pos (b * 2)) 1) ≡ lane_result (Asubu mode) w a b
unfolding element clipped unclipped exact dropped
average_sub_u w mode a b = let e : pos (a + b) -ℤ pos (b * 2) ≡ pos a -ℤ pos b = omega (arith, ints) in ap (λ v. low_bits (bits w) (rounded mode v 1)) e

pub average_sub : (w : Width) (mode : RoundingMode) (a b x y z : ℕ) → a < 2 ^ bits w → b < 2 ^ bits w → x ≡ (a + 2 ^ hbits w) % 2 ^ bits w → y ≡ (b + 2 ^ hbits w) % 2 ^ bits w → z ≡ (b + 2 ^ hbits w) % 2 ^ bits w → low_bits (bits w) (rounded mode (pos (x + y) -ℤ pos (z * 2)) 1) ≡ lane_result (Asub mode) w a b
unfolding element clipped unclipped exact dropped
average_sub w mode a b x y z la lb is_x is_y is =
    let e : pos (x + y) -ℤ pos (z * 2) ≡ cast_signed w a -ℤ cast_signed w b = omega (arith, ints, signed_is w a la, signed_is w b lb, is_x, is_y, is) in
    ap (λ v. low_bits (bits w) (rounded mode v 1)) e

pub shift_u : (w : Width) (mode : RoundingMode) (a b z : ℕ) → z ≡ 0 → low_bits (bits w) (rounded mode (pos a -ℤ pos z) (b % bits w)) ≡ lane_result (Ssrl mode) w a b
unfolding element clipped unclipped exact dropped
shift_u w mode a b z is = let e : pos a -ℤ pos z ≡ pos a = omega (arith, ints, is) in ap (λ v. low_bits (bits w) (rounded mode v (b % bits w))) e

pub shift_signed : (w : Width) (mode : RoundingMode) (a b x z : ℕ) → a < 2 ^ bits w → x ≡ (a + 2 ^ hbits w) % 2 ^ bits w → z ≡ 2 ^ hbits w → low_bits (bits w) (rounded mode (pos x -ℤ pos z) (b % bits w)) ≡ lane_result (Ssra mode) w a b
unfolding element clipped unclipped exact dropped
shift_signed w mode a b x z la is_x is =
    let e : pos x -ℤ pos z ≡ cast_signed w a = omega (arith, ints, signed_is w a la, is_x, is) in
    ap (λ v. low_bits (bits w) (rounded mode v (b % bits w))) e

-- the shift loses no bit of the top one
one_more_bit : (w : Width) → bits w ≡ suc (hbits w)
one_more_bit w8 = refl
one_more_bit w16 = refl
one_more_bit w32 = refl
one_more_bit w64 = refl
one_more_bit w128 = refl

pub top_whole : (w : Width) (b : ℕ) → 2 ^ hbits w ≡ 2 ^ (hbits w - b % bits w) * 2 ^ (b % bits w)
top_whole w b =
    let lt : b % bits w < bits w = mod_below b (bits w) (omega (arith, two_bits w)) in
    let parts : hbits w ≡ hbits w - b % bits w + b % bits w = omega (arith, lt, one_more_bit w) in
    ap (λ n. 2 ^ n) parts ∙ pow-add 2 (hbits w - b % bits w) (b % bits w)

-- what is not clipped never saturates
never : (v : ℤ) (m : ℕ) → 0 ≡ cond (not (int_eq v v)) m 0
never v m = rw ((Decides-int_eq v v).1 refl) refl

pub unflagged : (op : FixedOp) (w : Width) (mode : RoundingMode) (a b m : ℕ) → ((v : ℤ) → clipped op w v ≡ v) → 0 ≡ cond (saturates op mode w a b) m 0
unfolding saturates
unflagged op w mode a b m kept = rw (kept (unclipped op mode w a b)) (never (unclipped op mode w a b) m)
