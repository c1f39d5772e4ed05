-- The lowest bits of a signed number of 64 bits.
use Rattle.std.proofs.Common.{◌≡◌, ℕ, suc, ◌+◌, ◌-◌, ◌*◌, ◌/◌, ◌%◌, ◌^◌, ◌<◌, ◌≤◌, ℤ, pos, negsuc, refl, ap, sym, ◌∙◌, arith, w64, FitsSigned, of_z}
use Rattle.std.proofs.lemmas.Nat.{pow_pos, pow-add, mod-mul-add, div-add-mod', mod_below, shr_below}
use Rattle.std.proofs.Math.Pow.{pow_mono}
use lib.Signed.{shr_z, mag_shr}
use Rattle.lane_fixed.specs.Rounding.{low_bits, shifted}

-- the complement of a number, by quotient and rest
pub complement : (m k n q r : ℕ) → q * m + r ≡ n → r < m → q < k → k * m - suc n ≡ (k - 1 - q) * m + (m - 1 - r)
complement m k n q r is below less =
    let more : (j : ℕ) × (q + suc j ≡ k) = (k - 1 - q, omega arith) in
    let whole : k * m ≡ q * m + m + more.0 * m = rw (sym more.1) (grind arith) in
    let rest : k - 1 - q ≡ more.0 = omega (arith, more.1) in
    rw rest (omega (arith, whole, is, below))

complement_rest : (m k n : ℕ) → 0 < m → n / m < k → (k * m - suc n) % m ≡ m - 1 - n % m
complement_rest m k n some less =
    let r = n % m in
    let below : n % m < m = mod_below n m some in
    let e : k * m - suc n ≡ (k - 1 - n / m) * m + (m - 1 - n % m) = complement m k n (n / m) (n % m) (div-add-mod' n m) below less in
    ap (λ x. x % m) e ∙ mod-mul-add (k - 1 - n / m) m (m - 1 - n % m) (omega (arith, below))

power : (d : ℕ) → d ≤ 32 → 2 ^ (64 - d) * 2 ^ d ≡ 18446744073709551616
power d few =
    let whole : 64 - d + d ≡ 64 = omega arith in
    let e : 2 ^ (64 - d + d) ≡ 2 ^ 64 = ap (λ e. 2 ^ e) whole in
    sym (pow-add 2 (64 - d) d) ∙ e

pub low_is : (d : ℕ) (v : ℤ) → d ≤ 32 → FitsSigned w64 v → of_z w64 v % 2 ^ d ≡ low_bits d v
unfolding low_bits
low_is d (pos n) few fits = refl
low_is d (negsuc n) few fits =
    let whole : 64 - d + d ≡ 64 = omega arith in
    let small : n < 2 ^ (64 - d + d) = rw whole (omega (arith, fits.sfits)) in
    let e = complement_rest (2 ^ d) (2 ^ (64 - d)) n (pow_pos d) (shr_below n (64 - d) d small) in
    rw (sym (power d few)) e

-- they fit 32 bits
pub low_below : (d n : ℕ) → d ≤ 32 → n < 2 ^ d → n < 4294967296
low_below d n few below = omega (arith, pow_mono few, below)

-- a shift is a quotient
pub shifted_is : (d : ℕ) (v : ℤ) → shr_z v (2 ^ d) ≡ shifted d v
unfolding shifted
shifted_is d (pos n) = refl
shifted_is d (negsuc n) = refl

pub shifted_fits : (d : ℕ) (v : ℤ) → FitsSigned w64 v → FitsSigned w64 (shr_z v (2 ^ d))
shifted_fits d v fits = record { sfits = omega (arith, mag_shr v (2 ^ d), fits.sfits) }
