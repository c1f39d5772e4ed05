-- Division with remainder, by the table of the M extension.
use Rattle.std.proofs.Common.{◌≡◌, ◌<◌, ◌/◌, ◌%◌, ◌^◌, ℕ, zero, suc, arith, ap, refl, sym, ◌∙◌, inl, inr}
use Rattle.std.specs.Prelude.{if◌then◌else◌, ◌==◌, ℤ, pos, negsuc, ◌≤ℤ◌, int_div, int_rem, unsigned_abs}
use Rattle.std.specs.Int.{w32}
use Rattle.std.specs.Int.RustNames.{FitsSigned}
use Rattle.std.proofs.lemmas.Bool.{cases_lt}
use Rattle.std.proofs.lemmas.Bool.Decides.{nat_tests}
use Rattle.std.proofs.lemmas.Int.{quot-rem, to_z-of_z, rem_below, of_z-to_z, ints}
use Rattle.std.proofs.Math.Facts.{sfits_to_z}
use Rattle.std.specs.Int.Signed.{mag_rem}
use Rattle.scalar_core.specs.Arithmetic.{all_ones, register_result, signed, unsigned}
use Rattle.scalar_core.specs.Laws.{DividesSigned, DividesUnsigned, IsRemainder}

if_zero : (n m b : ℕ) → b ≡ 0 → (if b == 0 then n else m) ≡ n
if_zero n m b e = rw e refl

unless_zero : (n m b : ℕ) → 0 < b → (if b == 0 then n else m) ≡ m
unless_zero n m zero h = absurd (omega arith)
unless_zero n m (suc b) h = grind (arith, nat_tests)

pub divides_unsigned : DividesUnsigned
unfolding register_result
divides_unsigned a b p q = (
  (λ e. (if_zero all_ones (a / b) b e, if_zero a (a % b) b e)),
  (λ h. (rw (unless_zero all_ones (a / b) b h, unless_zero a (a % b) b h) (omega arith), rw (unless_zero a (a % b) b h) (omega arith))),
)

signed_fits : (a : ℕ) → a < 2 ^ 32 → FitsSigned w32 (signed a)
signed_fits a p = sfits_to_z (record { fits = p })

remainder_fits : (x y : ℤ) → FitsSigned w32 x → FitsSigned w32 (int_rem x y)
remainder_fits x y f = record { sfits = omega (arith, mag_rem x y, f.sfits) }

-- a number below 2 ^ 32 that reads as 0 is 0

is_zero : (z : ℤ) → unsigned_abs z ≡ 0 → z ≡ pos 0
is_zero (pos n) e = ap pos e
is_zero (negsuc n) e = absurd (omega (arith, ints))

not_zero : (b : ℕ) → b < 2 ^ 32 → 0 < b → 0 < unsigned_abs (signed b)
not_zero b q h = elim (cases_lt 0 (unsigned_abs (signed b))) [
  | inl above ↦ above
  | inr none ↦
      let zero_read : signed b ≡ pos 0 = is_zero (signed b) (omega (arith, none)) in
      let zero_is : b ≡ 0 = sym (of_z-to_z w32 b q) ∙ ap unsigned zero_read in
      absurd (omega (arith, zero_is, h))
]

-- a remainder has the dividend's sign
rem_sign : (x y : ℤ) → (pos 0 ≤ℤ x → pos 0 ≤ℤ int_rem x y) × (x ≤ℤ pos 0 → int_rem x y ≤ℤ pos 0)
rem_sign (pos n) y = ((λ h. omega (arith, ints)), (λ h. omega (arith, ints, mag_rem (pos n) y)))
rem_sign (negsuc n) y = ((λ h. absurd (omega (arith, ints))), (λ h. omega (arith, ints)))

rest_of : (a b : ℕ) → a < 2 ^ 32 → b < 2 ^ 32 → 0 < b → IsRemainder (signed a) (signed b) (int_rem (signed a) (signed b))
rest_of a b p q h =
    let sign = rem_sign (signed a) (signed b) in
    (rem_below (signed a) (signed b) (not_zero b q h), sign.0, sign.1)

pub divides_signed : DividesSigned
unfolding register_result
divides_signed a b p q = (
  (λ e. (if_zero all_ones (unsigned (int_div (signed a) (signed b))) b e, if_zero a (unsigned (int_rem (signed a) (signed b))) b e)),
  (λ most_negative minus_one. (rw (most_negative, minus_one) refl, rw (most_negative, minus_one) refl)),
  (λ h fits.
      let whole = unless_zero all_ones (unsigned (int_div (signed a) (signed b))) b h in
      let rest = unless_zero a (unsigned (int_rem (signed a) (signed b))) b h in
      let whole_is = to_z-of_z w32 (int_div (signed a) (signed b)) fits in
      let rest_is = to_z-of_z w32 (int_rem (signed a) (signed b)) (remainder_fits (signed a) (signed b) (signed_fits a p)) in
      rw (whole, rest, whole_is, rest_is) (quot-rem (signed a) (signed b))),
  (λ h.
      let rest = unless_zero a (unsigned (int_rem (signed a) (signed b))) b h in
      let rest_is = to_z-of_z w32 (int_rem (signed a) (signed b)) (remainder_fits (signed a) (signed b) (signed_fits a p)) in
      rw (rest, rest_is) (rest_of a b p q h)),
)
