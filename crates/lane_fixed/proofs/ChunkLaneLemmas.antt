-- The lanes of a vector, one at a time, after each operation of `std::simd`.
use Rattle.std.proofs.Common.{◌≡◌, ℕ, ◌+◌, ◌-◌, ◌*◌, ◌/◌, ◌%◌, ◌^◌, ◌<◌, ◌≤◌, Bool, true, false, List, [], ◌∷◌, length, map, slice_index, get_or, refl, ap, sym, ◌∙◌, zero, suc, arith, min, Fits, w8, w16, w32, w64}
use mir.Syntax.{w128}
use lib.Lanes.{zip2, sel_l, top, Each1, Each2}
use lib.ListN.{replicate}
use Rattle.std.specs.Int.{Width}
use mir.Val.{bits, hbits}
use mathlib.Core.Bool.{cond}
use lib.Dec.{ltb}
use Rattle.std.proofs.lemmas.Nat.{mod_below, mod-mul-add}
use Rattle.std.proofs.Math.Pow.{pow-lt}
use Rattle.std.proofs.lemmas.List.{get_or-map, length-map}
use Rattle.std.proofs.lemmas.Simd.{Each1-all, Each2-splat, get_or-zip2, get_or-sel_l, length-zip2, tops_compared, Each1-get_or, length-replicate, get_or-replicate}

abbrev Lanes : Width → ℕ → List ℕ → Type 0
Lanes w n xs = (length xs ≡ n) × Each1 (Fits w) xs

-- a lane is a number of its width
pub lane_below : (w : Width) (n : ℕ) (xs : List ℕ) → Lanes w n xs → (i : ℕ) → i < n → slice_index xs i < 2 ^ bits w
lane_below w n xs fits i lt =
    let fit : Fits w (get_or xs i 0) = Each1-get_or (Fits w) xs i 0 (omega (arith, fits.0)) fits.1 in
    fit.fits

-- an operation on two vectors, and on a vector and a splat
lane2 : (f : ℕ → ℕ → ℕ) (xs ys : List ℕ) (n i : ℕ) → length xs ≡ n → length ys ≡ n → i < n → get_or (zip2 f xs ys) i 0 ≡ f (get_or xs i 0) (get_or ys i 0)
lane2 f xs ys n i lx ly lt = get_or-zip2 f xs ys i 0 0 0 (omega (arith, lx)) (omega (arith, ly))

-- where a test of two vectors selects
pub sel_at : (w : Width) (t : ℕ → ℕ → Bool) (xs ys us vs : List ℕ) (n i : ℕ) → length xs ≡ n → length ys ≡ n → length us ≡ n → length vs ≡ n → i < n → slice_index (sel_l (map (top (hbits w)) (zip2 (λ a b. cond (t a b) (2 ^ bits w - 1) 0) xs ys)) us vs) i ≡ cond (t (slice_index xs i) (slice_index ys i)) (slice_index us i) (slice_index vs i)
sel_at w t xs ys us vs n i lx ly la lb lt =
    let long : length (zip2 t xs ys) ≡ length xs = length-zip2 t xs ys (lx ∙ sym ly) in
    let at = get_or-sel_l (zip2 t xs ys) us vs i 0 (omega (arith, long, lx)) (omega (arith, la)) (omega (arith, lb)) in
    let test = get_or-zip2 t xs ys i 0 0 false (omega (arith, lx)) (omega (arith, ly)) in
    rw (tops_compared w t xs ys, at, test) refl

length_sel : (w : Width) (t : ℕ → ℕ → Bool) (xs ys us vs : List ℕ) (n : ℕ) → length xs ≡ n → length ys ≡ n → length us ≡ n → length vs ≡ n → length (sel_l (map (top (hbits w)) (zip2 (λ a b. cond (t a b) (2 ^ bits w - 1) 0) xs ys)) us vs) ≡ n
length_sel w t xs ys us vs n lx ly la lb =
    let long : length (zip2 t xs ys) ≡ length xs = length-zip2 t xs ys (lx ∙ sym ly) in
    rw (tops_compared w t xs ys) (Rattle.std.proofs.lemmas.Simd.length-sel_l (zip2 t xs ys) us vs (omega (arith, long, lx, la)) (omega (arith, long, lx, lb)) ∙ long ∙ lx)

-- by whether a number is below another
pub by_ltb : (a b : ℕ) (P : Bool → Type 0) → (a < b → P true) → (b ≤ a → P false) → P (ltb a b)
by_ltb a b P below above = go (ltb a b) refl
  where
    go : (t : Bool) → ltb a b ≡ t → P t
    go true e = below (grind (arith, e))
    go false e = above (grind (arith, e))

-- saturating sums and differences
mod_is : (m n : ℕ) → n < m → n % m ≡ n
mod_is m n lt = grind (arith, lt)

sum_bounded : (m a b : ℕ) → a < m → b < m → (a + cond (ltb b (m - 1 - a)) b (m - 1 - a)) % m ≡ min (a + b) (m - 1)
sum_bounded m a b p q = by_ltb b (m - 1 - a) (λ t. (a + cond t b (m - 1 - a)) % m ≡ min (a + b) (m - 1))
    (λ lt. mod_is m (a + b) (omega (arith, lt)) ∙ omega (arith, lt))
    (λ le. mod_is m (a + (m - 1 - a)) (omega (arith, p)) ∙ omega (arith, le, p))

difference_bounded : (m a b : ℕ) → a < m → b < m → (cond (ltb a b) b a + (m - b)) % m ≡ a - b
difference_bounded m a b p q = by_ltb a b (λ t. (cond t b a + (m - b)) % m ≡ a - b)
    (λ lt. let whole : b + (m - b) ≡ 1 * m + 0 = omega (arith, q) in ap (λ n. n % m) whole ∙ mod-mul-add 1 m 0 (omega (arith, p)) ∙ omega (arith, lt))
    (λ le. let whole : a + (m - b) ≡ 1 * m + (a - b) = omega (arith, q, le) in ap (λ n. n % m) whole ∙ mod-mul-add 1 m (a - b) (omega (arith, p)))

pub saturating_sum_at : (w : Width) (xs ys : List ℕ) (n i : ℕ) → Lanes w n xs → Lanes w n ys → i < n → get_or (zip2 (λ a b. (a + b) % 2 ^ bits w) xs (sel_l (map (top (hbits w)) (zip2 (λ a b. cond (ltb a b) (2 ^ bits w - 1) 0) ys (map (λ a. 2 ^ bits w - 1 - a) xs))) ys (map (λ a. 2 ^ bits w - 1 - a) xs))) i 0 ≡ min (get_or xs i 0 + get_or ys i 0) (2 ^ bits w - 1)
saturating_sum_at w xs ys n i fx fy lt =
    let room = map (λ a. 2 ^ bits w - 1 - a) xs in
    let long : length room ≡ n = length-map xs (λ a. 2 ^ bits w - 1 - a) ∙ fx.0 in
    let chosen = length_sel w ltb ys room ys room n fy.0 long fy.0 long in
    rw (lane2 (λ a b. (a + b) % 2 ^ bits w) xs _ n i fx.0 chosen lt, sel_at w ltb ys room ys room n i fy.0 long fy.0 long lt, get_or-map (λ a. 2 ^ bits w - 1 - a) xs i 0 0 (omega (arith, fx.0)))
    (sum_bounded (2 ^ bits w) (get_or xs i 0) (get_or ys i 0) (lane_below w n xs fx i lt) (lane_below w n ys fy i lt))

pub saturating_difference_at : (w : Width) (xs ys : List ℕ) (n i : ℕ) → Lanes w n xs → Lanes w n ys → i < n → get_or (zip2 (λ a b. (a + (2 ^ bits w - b)) % 2 ^ bits w) (sel_l (map (top (hbits w)) (zip2 (λ a b. cond (ltb a b) (2 ^ bits w - 1) 0) xs ys)) ys xs) ys) i 0 ≡ get_or xs i 0 - get_or ys i 0
saturating_difference_at w xs ys n i fx fy lt =
    let chosen = length_sel w ltb xs ys ys xs n fx.0 fy.0 fy.0 fx.0 in
    rw (lane2 (λ a b. (a + (2 ^ bits w - b)) % 2 ^ bits w) _ ys n i chosen fy.0 lt, sel_at w ltb xs ys ys xs n i fx.0 fy.0 fy.0 fx.0 lt)
    (difference_bounded (2 ^ bits w) (get_or xs i 0) (get_or ys i 0) (lane_below w n xs fx i lt) (lane_below w n ys fy i lt))

-- lanes that are shifted by the low log2(SEW) bits of others
some_bits : (w : Width) → 0 < bits w
some_bits w8 = omega arith
some_bits w16 = omega arith
some_bits w32 = omega arith
some_bits w64 = omega arith
some_bits w128 = omega arith

pub no_zeros : (w : Width) (ys : List ℕ) (n : ℕ) → Each2 (λ (a b : ℕ). 0 < b) ys (replicate n (bits w))
no_zeros w ys n = Each2-splat _ ys n (bits w) (Each1-all _ (λ x. some_bits w) ys)

pub amounts_fit : (w : Width) (xs ys : List ℕ) (n : ℕ) → Each2 (λ (a s : ℕ). s < bits w) xs (zip2 (λ a b. a % b) ys (replicate n (bits w)))
amounts_fit w xs ys n = fit xs ys n
  where
    fit : (xs ys : List ℕ) (n : ℕ) → Each2 (λ (a s : ℕ). s < bits w) xs (zip2 (λ a b. a % b) ys (replicate n (bits w)))
    fit [] ys n = tt
    fit (x ∷ xs) [] n = tt
    fit (x ∷ xs) (y ∷ ys) zero = tt
    fit (x ∷ xs) (y ∷ ys) (suc n) = (mod_below y (bits w) (some_bits w), fit xs ys n)

amount_at : (w : Width) (ys : List ℕ) (n i : ℕ) → length ys ≡ n → i < n → get_or (zip2 (λ a b. a % b) ys (replicate n (bits w))) i 0 ≡ get_or ys i 0 % bits w
amount_at w ys n i long lt = lane2 (λ a b. a % b) ys (replicate n (bits w)) n i long (length-replicate n (bits w)) lt ∙ ap (λ m. get_or ys i 0 % m) (get_or-replicate n i (bits w) 0 lt)

long_amounts : (w : Width) (ys : List ℕ) (n : ℕ) → length ys ≡ n → length (zip2 (λ a b. a % b) ys (replicate n (bits w))) ≡ n
long_amounts w ys n long = length-zip2 (λ a b. a % b) ys (replicate n (bits w)) (long ∙ sym (length-replicate n (bits w))) ∙ long

pub shifted_at : (w : Width) (xs ys : List ℕ) (n i : ℕ) → length xs ≡ n → length ys ≡ n → i < n → get_or (zip2 (λ a s. a / 2 ^ s) xs (zip2 (λ a b. a % b) ys (replicate n (bits w)))) i 0 ≡ get_or xs i 0 / 2 ^ (get_or ys i 0 % bits w)
shifted_at w xs ys n i lx ly lt =
    lane2 (λ a s. a / 2 ^ s) xs _ n i lx (long_amounts w ys n ly) lt ∙ ap (λ s. get_or xs i 0 / 2 ^ s) (amount_at w ys n i ly lt)

pub power_at : (w : Width) (ys : List ℕ) (n i : ℕ) → length ys ≡ n → i < n → get_or (zip2 (λ a s. a * 2 ^ s % 2 ^ bits w) (replicate n 1) (zip2 (λ a b. a % b) ys (replicate n (bits w)))) i 0 ≡ 2 ^ (get_or ys i 0 % bits w)
power_at w ys n i long lt =
    let s = get_or ys i 0 % bits w in
    let below : 2 ^ s < 2 ^ bits w = pow-lt (mod_below (get_or ys i 0) (bits w) (some_bits w)) in
    let ones : List ℕ = replicate n 1 in
    let by : List ℕ = zip2 (λ a b. a % b) ys (replicate n (bits w)) in
    let at : get_or (zip2 (λ a s. a * 2 ^ s % 2 ^ bits w) ones by) i 0 ≡ get_or ones i 0 * 2 ^ get_or by i 0 % 2 ^ bits w = lane2 (λ a s. a * 2 ^ s % 2 ^ bits w) ones by n i (length-replicate n 1) (long_amounts w ys n long) lt in
    let one : get_or ones i 0 ≡ 1 = get_or-replicate n i 1 0 lt in
    let once : 1 * 2 ^ s ≡ 2 ^ s = omega arith in
    at ∙ ap (λ x. x * 2 ^ get_or by i 0 % 2 ^ bits w) one ∙ ap (λ x. 1 * 2 ^ x % 2 ^ bits w) (amount_at w ys n i long lt) ∙ ap (λ x. x % 2 ^ bits w) once ∙ mod_is (2 ^ bits w) (2 ^ s) below

-- a vector from its lanes
pub from_lanes : (f : ℕ → ℕ → ℕ) (n : ℕ) (xs ys zs : List ℕ) → length xs ≡ n → length ys ≡ n → length zs ≡ n → ((i : ℕ) → i < n → slice_index zs i ≡ f (slice_index xs i) (slice_index ys i)) → zs ≡ zip2 f xs ys
from_lanes f n [] ys [] lx ly lz h = refl
from_lanes f n [] ys (z ∷ zs) lx ly lz h = absurd (omega (arith, lx, lz))
from_lanes f n (x ∷ xs) [] zs lx ly lz h = absurd (omega (arith, lx, ly))
from_lanes f n (x ∷ xs) (y ∷ ys) [] lx ly lz h = absurd (omega (arith, lx, lz))
from_lanes f n (x ∷ xs) (y ∷ ys) (z ∷ zs) lx ly lz h =
    let first : z ≡ f x y = h 0 (omega (arith, lx)) in
    let rest = from_lanes f (n - 1) xs ys zs (omega (arith, lx)) (omega (arith, ly)) (omega (arith, lz)) (λ i lt. h (suc i) (omega (arith, lt))) in
    rw (first, rest) refl
