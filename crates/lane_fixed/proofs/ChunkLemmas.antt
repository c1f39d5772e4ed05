-- What the chunk calls make of one lane, as numbers, and that the definitions say the same.
use Rattle.std.proofs.Common.{◌≡◌, ℕ, ◌+◌, ◌-◌, ◌*◌, ◌/◌, ◌%◌, ◌^◌, ◌<◌, ◌≤◌, ◌==◌, Bool, true, false, not, nat_lt, ℤ, pos, negsuc, ◌+ℤ◌, ◌-ℤ◌, refl, ap, sym, ◌∙◌, suc, arith, min}
use Rattle.std.specs.Int.{Width, cast_signed, saturate_signed, saturate_unsigned}
use Rattle.std.specs.Ordering.{int_eq}
use Rattle.std.proofs.Common.{w8, w16, w32, w64, unsigned_abs}
use mir.Syntax.{w128}
use mir.Val.{bits, hbits}
use Rattle.std.proofs.lemmas.Int.{int_rem_euclid_is, ints}
use Rattle.std.proofs.Math.Nat.{mod-eq_of_lt}
use Rattle.std.proofs.lemmas.Nat.{mod-mul-add, pow_pos, div-add-mod', mod_below}
use Rattle.lane_fixed.proofs.ChunkLaneLemmas.{by_ltb}
use mathlib.Core.Bool.{cond}
use mathlib.Core.Logic.{◌⊎◌, inl, inr}
use Rattle.std.specs.Bool.{one_answer}
use Rattle.std.proofs.lemmas.Bool.Decides.{Decides-eqb, Decides-int_eq}
use Rattle.lane_fixed.specs.ModeLemmas.{rounded_by_none}
use Rattle.lane_fixed.specs.Rounding.{low_bits}
use Rattle.lane_fixed.specs.FixedPoint.{element, saturates, clipped, unclipped, exact, dropped}
use Rattle.lane_fixed.specs.Chunks.{lane_result, lane_flag}
use Rattle.lane_fixed.specs.declared.operations.Op.TheVariants.{Saddu, Sadd, Ssubu, Ssub}
use Rattle.lane_fixed.specs.declared.operations.RoundingMode.TheVariants.{Down}

-- two halves
pub twice : (w : Width) → 2 ^ bits w ≡ 2 * 2 ^ hbits w
twice w8 = refl
twice w16 = refl
twice w32 = refl
twice w64 = refl
twice w128 = refl

-- the lowest bits, of a number that some multiples make natural
pub low_of : (k : ℕ) (v : ℤ) (j m : ℕ) → v +ℤ pos (j * 2 ^ k) ≡ pos m → low_bits k v ≡ m % 2 ^ k
unfolding low_bits
low_of k v j m e = ap unsigned_abs (int_rem_euclid_is v (pos (2 ^ k)) (2 ^ k) j m (pow_pos k) refl e)

-- which numbers have the same lowest bits
one_less : (p q r m n a b : ℕ) → 0 < p → a * p + r ≡ m → b * p + r ≡ n → a < b → m + p ≤ n
one_less p q r m n a b some ea eb lt =
    let whole : b * p ≡ a * p + p + (b - 1 - a) * p = ap (λ z. z * p) (omega (arith, lt)) ∙ spread a (b - 1 - a) in
    omega (arith, whole, ea, eb)
  where
    spread : (x y : ℕ) → (x + 1 + y) * p ≡ x * p + p + y * p
    spread x y = grind arith

mod_apart : (p m n : ℕ) → 0 < p → m < n + p → n < m + p → m % p ≡ n % p → m ≡ n
mod_apart p m n some lm ln e =
    let a = div-add-mod' m p in
    let b = div-add-mod' n p in
    let c : n / p * p + m % p ≡ n = omega (arith, b, e) in
    by_ltb (m / p) (n / p) (λ t. m ≡ n)
    (λ lt. absurd (omega (arith, one_less p 0 (m % p) m n (m / p) (n / p) some a c lt, ln)))
    (λ le. by_ltb (n / p) (m / p) (λ t. m ≡ n)
    (λ lt. absurd (omega (arith, one_less p 0 (m % p) n m (n / p) (m / p) some c a lt, lm)))
    (λ ge. let same : m / p ≡ n / p = omega (arith, le, ge) in let k : m / p * p ≡ n / p * p = ap (λ z. z * p) same in omega (arith, a, c, k)))

pub same_low : (w : Width) (c v : ℤ) (m n : ℕ) → c +ℤ pos (2 ^ bits w) ≡ pos m → v +ℤ pos (2 ^ bits w) ≡ pos n → m < n + 2 ^ bits w → n < m + 2 ^ bits w → (low_bits (bits w) c == low_bits (bits w) v) ≡ int_eq c v
same_low w c v m n ec ev lm ln =
    let lc : low_bits (bits w) c ≡ m % 2 ^ bits w = low_of (bits w) c 1 m (omega (arith, ints, ec)) in
    let lv : low_bits (bits w) v ≡ n % 2 ^ bits w = low_of (bits w) v 1 n (omega (arith, ints, ev)) in
    one_answer (low_bits (bits w) c == low_bits (bits w) v) (int_eq c v) (
      λ t. let e : m ≡ n = mod_apart (2 ^ bits w) m n (pow_pos (bits w)) lm ln (sym lc ∙ (Decides-eqb (low_bits (bits w) c) (low_bits (bits w) v)).0 t ∙ lv) in omega (arith, ints, ec, ev, e),
      λ e. (Decides-eqb (low_bits (bits w) c) (low_bits (bits w) v)).1 (ap (low_bits (bits w)) e),
    ) (Decides-int_eq c v)

-- a signed number, and one that is clipped
pub signed_is : (w : Width) (a : ℕ) → a < 2 ^ bits w → cast_signed w a +ℤ pos (2 ^ hbits w) ≡ pos ((a + 2 ^ hbits w) % 2 ^ bits w)
signed_is w a lt =
    let t = twice w in
    by_ltb a (2 ^ hbits w) (λ b. cond b (pos a) (negsuc (2 ^ bits w - suc a)) +ℤ pos (2 ^ hbits w) ≡ pos ((a + 2 ^ hbits w) % 2 ^ bits w))
    (λ below. let e : (a + 2 ^ hbits w) % 2 ^ bits w ≡ a + 2 ^ hbits w = mod-eq_of_lt (omega (arith, below, t)) in omega (arith, ints, e))
    (λ above. let whole : a + 2 ^ hbits w ≡ 1 * 2 ^ bits w + (a - 2 ^ hbits w) = omega (arith, above, t) in
    let e : (a + 2 ^ hbits w) % 2 ^ bits w ≡ a - 2 ^ hbits w = ap (λ n. n % 2 ^ bits w) whole ∙ mod-mul-add 1 (2 ^ bits w) (a - 2 ^ hbits w) (omega (arith, lt)) in
    omega (arith, ints, e, above, lt, t))

pub clipped_is : (w : Width) (v : ℤ) (x y : ℕ) → v +ℤ pos y ≡ pos x → saturate_signed w v +ℤ pos (2 ^ hbits w) ≡ pos (min ((x + 2 ^ hbits w) - y) (2 ^ bits w - 1))
clipped_is w (pos n) x y e = let t = twice w in let some = pow_pos (hbits w) in omega (arith, ints, e, t, some)
clipped_is w (negsuc n) x y e = let t = twice w in let some = pow_pos (hbits w) in omega (arith, ints, e, t, some)

-- a number that is clipped: its lowest bits, and whether they are those of the number before
pub flipped : (t : Bool) (x y : ℕ) → cond t x y ≡ cond (not t) y x
flipped true x y = refl
flipped false x y = refl

unsigned_is : (w : Width) (v : ℤ) (x y : ℕ) → v +ℤ pos y ≡ pos x → saturate_unsigned w v ≡ min (x - y) (2 ^ bits w - 1)
unsigned_is w (pos n) x y e = omega (arith, ints, e)
unsigned_is w (negsuc n) x y e = omega (arith, ints, e)

pub unsigned_clip : (w : Width) (v : ℤ) (x y : ℕ) → v +ℤ pos y ≡ pos x → y < 2 ^ bits w → x + 1 < 2 * 2 ^ bits w → (low_bits (bits w) (pos (saturate_unsigned w v)) ≡ min (x - y) (2 ^ bits w - 1)) × ((low_bits (bits w) (pos (saturate_unsigned w v)) == low_bits (bits w) v) ≡ int_eq (pos (saturate_unsigned w v)) v)
unsigned_clip w v x y e ly lx =
    let some = pow_pos (bits w) in
    let c = unsigned_is w v x y e in
    let n : v +ℤ pos (2 ^ bits w) ≡ pos (x + (2 ^ bits w - y)) = omega (arith, ints, e, ly) in (
      low_of (bits w) (pos (saturate_unsigned w v)) 0 (saturate_unsigned w v) (omega (arith, ints)) ∙ mod-eq_of_lt (omega (arith, c, some)) ∙ c,
      same_low w (pos (saturate_unsigned w v)) v (saturate_unsigned w v + 2 ^ bits w) (x + (2 ^ bits w - y)) (omega (arith, ints)) n (omega (arith, c, ly, lx, some)) (omega (arith, c, ly, lx, some)),
    )

pub signed_clip : (w : Width) (v : ℤ) (x y : ℕ) → v +ℤ pos y ≡ pos x → y ≤ x + 2 ^ bits w → x < y + 2 ^ bits w → (low_bits (bits w) (saturate_signed w v) ≡ (min ((x + 2 ^ hbits w) - y) (2 ^ bits w - 1) + 2 ^ hbits w) % 2 ^ bits w) × ((low_bits (bits w) (saturate_signed w v) == low_bits (bits w) v) ≡ int_eq (saturate_signed w v) v)
signed_clip w v x y e ly lx =
    let some = pow_pos (hbits w) in
    let t = twice w in
    let c = clipped_is w v x y e in
    let kept = min ((x + 2 ^ hbits w) - y) (2 ^ bits w - 1) in
    let is_kept : kept ≡ min ((x + 2 ^ hbits w) - y) (2 ^ bits w - 1) = refl in
    let m : saturate_signed w v +ℤ pos (2 ^ bits w) ≡ pos (kept + 2 ^ hbits w) = omega (arith, ints, c, t) in
    let n : v +ℤ pos (2 ^ bits w) ≡ pos ((x + 2 ^ bits w) - y) = omega (arith, ints, e, ly) in (
      low_of (bits w) (saturate_signed w v) 1 (kept + 2 ^ hbits w) (omega (arith, ints, m)),
      same_low w (saturate_signed w v) v (kept + 2 ^ hbits w) ((x + 2 ^ bits w) - y) m n (omega (arith, is_kept, ly, lx, t, some)) (omega (arith, is_kept, ly, lx, t, some)),
    )

-- signed sums and differences, from the sums with the top bit
signed_from : (w : Width) (a : ℕ) → a < 2 ^ bits w → (cast_signed w a ≡ pos a) ⊎ (cast_signed w a +ℤ pos (2 ^ bits w) ≡ pos a)
signed_from w a lt = by_ltb a (2 ^ hbits w) (λ b. (cond b (pos a) (negsuc (2 ^ bits w - suc a)) ≡ pos a) ⊎ (cond b (pos a) (negsuc (2 ^ bits w - suc a)) +ℤ pos (2 ^ bits w) ≡ pos a))
    (λ below. inl refl)
    (λ above. inr (omega (arith, ints, lt)))

pub low_sum : (w : Width) (a b : ℕ) → a < 2 ^ bits w → b < 2 ^ bits w → low_bits (bits w) (cast_signed w a +ℤ cast_signed w b) ≡ (a + b) % 2 ^ bits w
low_sum w a b la lb = go (signed_from w a la) (signed_from w b lb)
  where
    go : (cast_signed w a ≡ pos a) ⊎ (cast_signed w a +ℤ pos (2 ^ bits w) ≡ pos a) → (cast_signed w b ≡ pos b) ⊎ (cast_signed w b +ℤ pos (2 ^ bits w) ≡ pos b) → low_bits (bits w) (cast_signed w a +ℤ cast_signed w b) ≡ (a + b) % 2 ^ bits w
    go (inl e) (inl f) = low_of (bits w) (cast_signed w a +ℤ cast_signed w b) 0 (a + b) (omega (arith, ints, e, f))
    go (inl e) (inr f) = low_of (bits w) (cast_signed w a +ℤ cast_signed w b) 1 (a + b) (omega (arith, ints, e, f))
    go (inr e) (inl f) = low_of (bits w) (cast_signed w a +ℤ cast_signed w b) 1 (a + b) (omega (arith, ints, e, f))
    go (inr e) (inr f) = low_of (bits w) (cast_signed w a +ℤ cast_signed w b) 2 (a + b) (omega (arith, ints, e, f))

pub low_difference : (w : Width) (a b : ℕ) → a < 2 ^ bits w → b < 2 ^ bits w → low_bits (bits w) (cast_signed w a -ℤ cast_signed w b) ≡ (a + (2 ^ bits w - b)) % 2 ^ bits w
low_difference w a b la lb = go (signed_from w a la) (signed_from w b lb)
  where
    go : (cast_signed w a ≡ pos a) ⊎ (cast_signed w a +ℤ pos (2 ^ bits w) ≡ pos a) → (cast_signed w b ≡ pos b) ⊎ (cast_signed w b +ℤ pos (2 ^ bits w) ≡ pos b) → low_bits (bits w) (cast_signed w a -ℤ cast_signed w b) ≡ (a + (2 ^ bits w - b)) % 2 ^ bits w
    go (inl e) (inl f) = low_of (bits w) (cast_signed w a -ℤ cast_signed w b) 1 (a + (2 ^ bits w - b)) (omega (arith, ints, e, f, lb))
    go (inl e) (inr f) = low_of (bits w) (cast_signed w a -ℤ cast_signed w b) 0 (a + (2 ^ bits w - b)) (omega (arith, ints, e, f, lb))
    go (inr e) (inl f) = low_of (bits w) (cast_signed w a -ℤ cast_signed w b) 2 (a + (2 ^ bits w - b)) (omega (arith, ints, e, f, lb))
    go (inr e) (inr f) = low_of (bits w) (cast_signed w a -ℤ cast_signed w b) 1 (a + (2 ^ bits w - b)) (omega (arith, ints, e, f, lb))

-- the number with the top bit added, in both halves
raised_low : (w : Width) (b : ℕ) → b < 2 ^ hbits w → (b + 2 ^ hbits w) % 2 ^ bits w ≡ b + 2 ^ hbits w
raised_low w b lt = let t = twice w in mod-eq_of_lt (omega (arith, lt, t))

raised_high : (w : Width) (b : ℕ) → 2 ^ hbits w ≤ b → b < 2 ^ bits w → (b + 2 ^ hbits w) % 2 ^ bits w ≡ b - 2 ^ hbits w
raised_high w b le lt =
    let t = twice w in
    let whole : b + 2 ^ hbits w ≡ 1 * 2 ^ bits w + (b - 2 ^ hbits w) = omega (arith, le, t) in
    ap (λ n. n % 2 ^ bits w) whole ∙ mod-mul-add 1 (2 ^ bits w) (b - 2 ^ hbits w) (omega (arith, lt))

negated : (w : Width) (b : ℕ) → 2 ^ hbits w ≤ b → (0 + (2 ^ bits w - b)) % 2 ^ bits w ≡ 2 ^ bits w - b
negated w b le =
    let t = twice w in
    let some = pow_pos (hbits w) in
    let e : 0 + (2 ^ bits w - b) ≡ 2 ^ bits w - b = omega arith in
    ap (λ n. n % 2 ^ bits w) e ∙ mod-eq_of_lt (omega (arith, le, t, some))

turned_fits : (w : Width) (a : ℕ) → (a + 2 ^ hbits w) % 2 ^ bits w < 2 ^ bits w
turned_fits w a = mod_below (a + 2 ^ hbits w) (2 ^ bits w) (pow_pos (bits w))

pub signed_sum_is : (w : Width) (a b : ℕ) → a < 2 ^ bits w → b < 2 ^ bits w → (cond (nat_lt b (2 ^ hbits w)) (min ((a + 2 ^ hbits w) % 2 ^ bits w + b) (2 ^ bits w - 1)) ((a + 2 ^ hbits w) % 2 ^ bits w - (0 + (2 ^ bits w - b)) % 2 ^ bits w) + 2 ^ hbits w) % 2 ^ bits w ≡ low_bits (bits w) (saturate_signed w (cast_signed w a +ℤ cast_signed w b))
signed_sum_is w a b la lb =
    let t = twice w in
    let x = (a + 2 ^ hbits w) % 2 ^ bits w in
    let y = (b + 2 ^ hbits w) % 2 ^ bits w in
    let v : (cast_signed w a +ℤ cast_signed w b) +ℤ pos (2 ^ bits w) ≡ pos (x + y) = omega (arith, ints, signed_is w a la, signed_is w b lb, t) in
    let clip = signed_clip w (cast_signed w a +ℤ cast_signed w b) (x + y) (2 ^ bits w) v (omega arith) (omega (arith, turned_fits w a, turned_fits w b)) in
    let same : cond (nat_lt b (2 ^ hbits w)) (min (x + b) (2 ^ bits w - 1)) (x - (0 + (2 ^ bits w - b)) % 2 ^ bits w) ≡ min ((x + y + 2 ^ hbits w) - 2 ^ bits w) (2 ^ bits w - 1) =
    by_ltb b (2 ^ hbits w) (λ k. cond k (min (x + b) (2 ^ bits w - 1)) (x - (0 + (2 ^ bits w - b)) % 2 ^ bits w) ≡ min ((x + y + 2 ^ hbits w) - 2 ^ bits w) (2 ^ bits w - 1))
    (λ below. omega (arith, raised_low w b below, t))
    (λ above. omega (arith, raised_high w b above lb, negated w b above, above, lb, turned_fits w a, t)) in
    ap (λ n. (n + 2 ^ hbits w) % 2 ^ bits w) same ∙ sym clip.0

pub signed_difference_is : (w : Width) (a b : ℕ) → a < 2 ^ bits w → b < 2 ^ bits w → (cond (nat_lt b (2 ^ hbits w)) ((a + 2 ^ hbits w) % 2 ^ bits w - b) (min ((a + 2 ^ hbits w) % 2 ^ bits w + (0 + (2 ^ bits w - b)) % 2 ^ bits w) (2 ^ bits w - 1)) + 2 ^ hbits w) % 2 ^ bits w ≡ low_bits (bits w) (saturate_signed w (cast_signed w a -ℤ cast_signed w b))
signed_difference_is w a b la lb =
    let t = twice w in
    let x = (a + 2 ^ hbits w) % 2 ^ bits w in
    let y = (b + 2 ^ hbits w) % 2 ^ bits w in
    let v : (cast_signed w a -ℤ cast_signed w b) +ℤ pos y ≡ pos x = omega (arith, ints, signed_is w a la, signed_is w b lb, t) in
    let clip = signed_clip w (cast_signed w a -ℤ cast_signed w b) x y v (omega (arith, turned_fits w b)) (omega (arith, turned_fits w a)) in
    let same : cond (nat_lt b (2 ^ hbits w)) (x - b) (min (x + (0 + (2 ^ bits w - b)) % 2 ^ bits w) (2 ^ bits w - 1)) ≡ min ((x + 2 ^ hbits w) - y) (2 ^ bits w - 1) =
    by_ltb b (2 ^ hbits w) (λ k. cond k (x - b) (min (x + (0 + (2 ^ bits w - b)) % 2 ^ bits w) (2 ^ bits w - 1)) ≡ min ((x + 2 ^ hbits w) - y) (2 ^ bits w - 1))
    (λ below. omega (arith, raised_low w b below, turned_fits w a, t))
    (λ above. omega (arith, raised_high w b above lb, negated w b above, above, lb, turned_fits w a, t)) in
    ap (λ n. (n + 2 ^ hbits w) % 2 ^ bits w) same ∙ sym clip.0

flag_of : (w : Width) (c v : ℤ) (r s : ℕ) → r ≡ low_bits (bits w) c → s ≡ low_bits (bits w) v → (low_bits (bits w) c == low_bits (bits w) v) ≡ int_eq c v → cond (r == s) 0 (2 ^ bits w - 1) ≡ cond (not (int_eq c v)) (2 ^ bits w - 1) 0
flag_of w c v r s er es same = rw (er, es, same) (flipped (int_eq c v) 0 (2 ^ bits w - 1))

-- the saturating operations: the result, and whether it is clipped
pub add_u_lane : (w : Width) (a b : ℕ) → a < 2 ^ bits w → b < 2 ^ bits w → (min (a + b) (2 ^ bits w - 1) ≡ lane_result Saddu w a b) × (cond (min (a + b) (2 ^ bits w - 1) == (a + b) % 2 ^ bits w) 0 (2 ^ bits w - 1) ≡ lane_flag Saddu w a b)
unfolding element saturates clipped unclipped exact dropped
add_u_lane w a b la lb =
    let v : ℤ = pos a +ℤ pos b in
    let clip = unsigned_clip w v (a + b) 0 (omega (arith, ints)) (pow_pos (bits w)) (omega (arith, la, lb)) in
    let r : min (a + b) (2 ^ bits w - 1) ≡ low_bits (bits w) (pos (saturate_unsigned w v)) = omega (arith, clip.0) in
    let s : (a + b) % 2 ^ bits w ≡ low_bits (bits w) v = sym (low_of (bits w) v 0 (a + b) (omega (arith, ints))) in
    rw (rounded_by_none Down v) (r, flag_of w (pos (saturate_unsigned w v)) v _ _ r s clip.1)

pub sub_u_lane : (w : Width) (a b : ℕ) → a < 2 ^ bits w → b < 2 ^ bits w → (a - b ≡ lane_result Ssubu w a b) × (cond (a - b == (a + (2 ^ bits w - b)) % 2 ^ bits w) 0 (2 ^ bits w - 1) ≡ lane_flag Ssubu w a b)
unfolding element saturates clipped unclipped exact dropped
sub_u_lane w a b la lb =
    let v : ℤ = pos a -ℤ pos b in
    let clip = unsigned_clip w v a b (omega (arith, ints)) lb (omega (arith, la)) in
    let r : a - b ≡ low_bits (bits w) (pos (saturate_unsigned w v)) = omega (arith, clip.0, la) in
    let s : (a + (2 ^ bits w - b)) % 2 ^ bits w ≡ low_bits (bits w) v = sym (low_of (bits w) v 1 (a + (2 ^ bits w - b)) (omega (arith, ints, lb))) in
    rw (rounded_by_none Down v) (r, flag_of w (pos (saturate_unsigned w v)) v _ _ r s clip.1)

pub add_lane : (w : Width) (a b r : ℕ) → a < 2 ^ bits w → b < 2 ^ bits w → r ≡ low_bits (bits w) (saturate_signed w (cast_signed w a +ℤ cast_signed w b)) → (r ≡ lane_result Sadd w a b) × (cond (r == (a + b) % 2 ^ bits w) 0 (2 ^ bits w - 1) ≡ lane_flag Sadd w a b)
unfolding element saturates clipped unclipped exact dropped
add_lane w a b r la lb e =
    let v : ℤ = cast_signed w a +ℤ cast_signed w b in
    let t = twice w in
    let x = mod_below (a + 2 ^ hbits w) (2 ^ bits w) (pow_pos (bits w)) in
    let y = mod_below (b + 2 ^ hbits w) (2 ^ bits w) (pow_pos (bits w)) in
    let n : v +ℤ pos (2 ^ bits w) ≡ pos ((a + 2 ^ hbits w) % 2 ^ bits w + (b + 2 ^ hbits w) % 2 ^ bits w) = omega (arith, ints, signed_is w a la, signed_is w b lb, t) in
    let clip = signed_clip w v ((a + 2 ^ hbits w) % 2 ^ bits w + (b + 2 ^ hbits w) % 2 ^ bits w) (2 ^ bits w) n (omega arith) (omega (arith, x, y)) in
    rw (rounded_by_none Down v) (e, flag_of w (saturate_signed w v) v _ _ e (sym (low_sum w a b la lb)) clip.1)

pub sub_lane : (w : Width) (a b r : ℕ) → a < 2 ^ bits w → b < 2 ^ bits w → r ≡ low_bits (bits w) (saturate_signed w (cast_signed w a -ℤ cast_signed w b)) → (r ≡ lane_result Ssub w a b) × (cond (r == (a + (2 ^ bits w - b)) % 2 ^ bits w) 0 (2 ^ bits w - 1) ≡ lane_flag Ssub w a b)
unfolding element saturates clipped unclipped exact dropped
sub_lane w a b r la lb e =
    let v : ℤ = cast_signed w a -ℤ cast_signed w b in
    let x = mod_below (a + 2 ^ hbits w) (2 ^ bits w) (pow_pos (bits w)) in
    let y = mod_below (b + 2 ^ hbits w) (2 ^ bits w) (pow_pos (bits w)) in
    let n : v +ℤ pos ((b + 2 ^ hbits w) % 2 ^ bits w) ≡ pos ((a + 2 ^ hbits w) % 2 ^ bits w) = omega (arith, ints, signed_is w a la, signed_is w b lb) in
    let clip = signed_clip w v ((a + 2 ^ hbits w) % 2 ^ bits w) ((b + 2 ^ hbits w) % 2 ^ bits w) n (omega (arith, y)) (omega (arith, x)) in
    rw (rounded_by_none Down v) (e, flag_of w (saturate_signed w v) v _ _ e (sym (low_difference w a b la lb)) clip.1)
