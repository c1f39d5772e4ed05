-- Bytes that are chosen by flags.
use Rattle.std.proofs.Common.{◌≡◌, if◌then◌else◌, ℕ, ◌+◌, ◌-◌, ◌*◌, ◌^◌, ◌<◌, Bool, true, false, List, zero, suc, get_or, refl, ap, sym, ◌∙◌, arith, pow-suc}
use Rattle.byteorder.specs.Endian.{little_from}
use Rattle.vreg_groups.specs.NewElements.{filled}
use Rattle.vreg_groups.specs.declared.policies.Agnostic.{Agnostic}
use Rattle.vreg_groups.specs.declared.policies.Agnostic.TheVariants.{Keep, Ones}
use Rattle.lane_file.proofs.Steps.{same_number}

-- bytes all of whose bits are ones
ones_number : (n a : ℕ) (xs : List ℕ) → ((k i : ℕ) → k < n → i ≡ a + k → get_or xs i 0 ≡ 255) → little_from a n xs + 1 ≡ 256 ^ n
ones_number zero a xs h = refl
ones_number (suc n) a xs h =
    let low : get_or xs a 0 ≡ 255 = h 0 a (omega arith) (omega arith) in
    let high : little_from (suc a) n xs + 1 ≡ 256 ^ n = ones_number n (suc a) xs (λ k i lt p. h (suc k) i (omega (arith, lt)) (omega (arith, p))) in
    let sum : get_or xs a 0 + 256 * little_from (suc a) n xs + 1 ≡ 256 * (little_from (suc a) n xs + 1) = omega (arith, low) in
    let power : 256 ^ suc n ≡ 256 ^ n * 256 = pow-suc 256 n in
    let all : 256 * (little_from (suc a) n xs + 1) ≡ 256 ^ suc n = omega (arith, high, power) in
    sum ∙ all

-- the number of bytes that become what a policy says
pub filled_number : (agnostic : Agnostic) (n a : ℕ) (old new : List ℕ) → ((k : ℕ) → k < n → get_or new (a + k) 0 ≡ filled agnostic 255 (get_or old (a + k) 0)) → little_from a n new ≡ filled agnostic (256 ^ n - 1) (little_from a n old)
filled_number Keep n a old new h = same_number n a a new old (λ k i j lt p q. ap (λ t. get_or new t 0) p ∙ h k lt ∙ ap (λ t. get_or old t 0) (sym q))
filled_number Ones n a old new h = let e = ones_number n a new (λ k i lt p. ap (λ t. get_or new t 0) p ∙ h k lt) in omega (arith, e)

-- an element that is chosen, or not
pub chosen_element : (yes : Bool) (agnostic : Agnostic) (s p q r : ℕ) (old rs new : List ℕ) → (yes ≡ true → little_from p s new ≡ r) → (yes ≡ false → (k : ℕ) → k < s → get_or new (p + k) 0 ≡ filled agnostic 255 (get_or old (p + k) 0))
    → little_from p s new ≡ (if yes then r else filled agnostic (256 ^ s - 1) (little_from p s old))
chosen_element true agnostic s p q r old rs new on off = on refl
chosen_element false agnostic s p q r old rs new on off = filled_number agnostic s p old new (off refl)
