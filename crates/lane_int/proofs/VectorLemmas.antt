-- Vectors that are computed lane by lane from the lanes of two or three others.
use Rattle.std.proofs.Common.{◌≡◌, ℕ, ◌+◌, ◌-◌, ◌*◌, ◌%◌, ◌^◌, ◌<◌, List, [], ◌∷◌, Bool, cond, zero, suc, length, get_or, map, replicate, refl, sym, ap, ap₂, ◌∙◌, arith, min, max, ltb, inl, inr, Fits, lit<, mod-lt, w8, w16, w32, w64}
use Rattle.std.specs.Int.{Width, w128}
use Rattle.std.specs.Simd.Lanes.{zip2, sel_l, top}
use lib.Lanes.{Each1, Each2}
use mir.Val.{bits, hbits}
use Rattle.std.proofs.lemmas.Bool.{cases_lt, lt-ltb, le-ltb}
use Rattle.std.proofs.lemmas.Simd.{tops_compared}
use Rattle.lane_int.specs.Integer.{multiply_added, shift_amount}
use Rattle.std.proofs.Math.Nat.{mod-add-mod}
use Rattle.rv_decode.specs.declared.instructions.MultiplyAddOp.TheVariants.{Macc, Nmsac, Madd, Nmsub}
use Rattle.lane_int.specs.Lists.{zip3}
use Rattle.lane_int.proofs.Overlay.{get_or-zip3}

-- two functions agree on numbers below 2^SEW
pub zip2_agrees : (w : Width) {A : Type 0} {f g : ℕ → ℕ → A} (xs ys : List ℕ) → ((a b : ℕ) → a < 2 ^ bits w → b < 2 ^ bits w → f a b ≡ g a b) → Each1 (Fits w) xs → Each1 (Fits w) ys → zip2 f xs ys ≡ zip2 g xs ys
zip2_agrees w [] ys same fits_x fits_y = refl
zip2_agrees w (x ∷ xs) [] same fits_x fits_y = refl
zip2_agrees w (x ∷ xs) (y ∷ ys) same fits_x fits_y = ap₂ (λ r rs. r ∷ rs) (same x y fits_x.0.fits fits_y.0.fits) (zip2_agrees w xs ys same fits_x.1 fits_y.1)

pub zip2_swapped : (f : ℕ → ℕ → ℕ) (xs ys : List ℕ) → zip2 f ys xs ≡ zip2 (λ a b. f b a) xs ys
zip2_swapped f [] [] = refl
zip2_swapped f [] (y ∷ ys) = refl
zip2_swapped f (x ∷ xs) [] = refl
zip2_swapped f (x ∷ xs) (y ∷ ys) = ap (λ rs. f y x ∷ rs) (zip2_swapped f xs ys)

pub zip2_maps : (f : ℕ → ℕ → ℕ) (g h : ℕ → ℕ) (xs ys : List ℕ) → zip2 f (map g xs) (map h ys) ≡ zip2 (λ a b. f (g a) (h b)) xs ys
zip2_maps f g h [] ys = refl
zip2_maps f g h (x ∷ xs) [] = refl
zip2_maps f g h (x ∷ xs) (y ∷ ys) = ap (λ rs. f (g x) (h y) ∷ rs) (zip2_maps f g h xs ys)

pub zip2_map_right : (f : ℕ → ℕ → ℕ) (h : ℕ → ℕ) (xs ys : List ℕ) → zip2 f xs (map h ys) ≡ zip2 (λ a b. f a (h b)) xs ys
zip2_map_right f h [] ys = refl
zip2_map_right f h (x ∷ xs) [] = refl
zip2_map_right f h (x ∷ xs) (y ∷ ys) = ap (λ rs. f x (h y) ∷ rs) (zip2_map_right f h xs ys)

-- f of what g makes of the lanes, and of what h makes of a splat and the second lane
pub zip2_splat_of : (f g h : ℕ → ℕ → ℕ) (n z : ℕ) (xs ys : List ℕ) → length ys ≡ n → zip2 f (zip2 g xs ys) (zip2 h (replicate n z) ys) ≡ zip2 (λ a b. f (g a b) (h z b)) xs ys
zip2_splat_of f g h n z [] ys long = refl
zip2_splat_of f g h n z (x ∷ xs) [] long = refl
zip2_splat_of f g h zero z (x ∷ xs) (y ∷ ys) long = absurd (omega (arith, long))
zip2_splat_of f g h (suc n) z (x ∷ xs) (y ∷ ys) long = ap (λ rs. f (g x y) (h z y) ∷ rs) (zip2_splat_of f g h n z xs ys (omega (arith, long)))

some_bits : (w : Width) → 0 < bits w
some_bits w8 = lit< tt
some_bits w16 = lit< tt
some_bits w32 = lit< tt
some_bits w64 = lit< tt
some_bits w128 = lit< tt

-- amounts of shifts are below SEW
pub amounts_fit : (w : Width) (xs ys : List ℕ) {amounts : List ℕ} → amounts ≡ map (shift_amount w) ys → Each2 (λ (a s : ℕ). s < bits w) xs amounts
amounts_fit w xs ys is = rw is (fit xs ys)
  where
    fit : (xs ys : List ℕ) → Each2 (λ (a s : ℕ). s < bits w) xs (map (shift_amount w) ys)
    fit [] ys = tt
    fit (x ∷ xs) [] = tt
    fit (x ∷ xs) (y ∷ ys) = (mod-lt y (some_bits w), fit xs ys)

-- beside a third vector, where two functions agree on numbers below 2^SEW
pub zip3_agrees : (w : Width) {f : ℕ → ℕ → ℕ} {g : ℕ → ℕ → ℕ → ℕ} (xs ys zs : List ℕ) → ((a b d : ℕ) → a < 2 ^ bits w → b < 2 ^ bits w → f a b ≡ g a b d) → Each1 (Fits w) xs → Each1 (Fits w) ys → length zs ≡ length xs → zip2 f xs ys ≡ zip3 g xs ys zs
zip3_agrees w [] ys zs same fits_x fits_y long = refl
zip3_agrees w (x ∷ xs) [] zs same fits_x fits_y long = refl
zip3_agrees w (x ∷ xs) (y ∷ ys) [] same fits_x fits_y long = absurd (omega (arith, long))
zip3_agrees w (x ∷ xs) (y ∷ ys) (z ∷ zs) same fits_x fits_y long = ap₂ (λ r rs. r ∷ rs) (same x y z fits_x.0.fits fits_y.0.fits) (zip3_agrees w xs ys zs same fits_x.1 fits_y.1 (omega (arith, long)))

pub zip3_same : {f g : ℕ → ℕ → ℕ → ℕ} (xs ys zs : List ℕ) → ((a b d : ℕ) → f a b d ≡ g a b d) → zip3 f xs ys zs ≡ zip3 g xs ys zs
zip3_same xs ys zs same = ap (λ f. zip3 f xs ys zs) (λ i a b d. same a b d i)

-- f of g of two of three vectors and of the third
pub zip3_yx_z : (f g : ℕ → ℕ → ℕ) (xs ys zs : List ℕ) → zip2 f (zip2 g ys xs) zs ≡ zip3 (λ a b d. f (g b a) d) xs ys zs
zip3_yx_z f g [] [] zs = refl
zip3_yx_z f g [] (y ∷ ys) zs = refl
zip3_yx_z f g (x ∷ xs) [] zs = refl
zip3_yx_z f g (x ∷ xs) (y ∷ ys) [] = refl
zip3_yx_z f g (x ∷ xs) (y ∷ ys) (z ∷ zs) = ap (λ rs. f (g y x) z ∷ rs) (zip3_yx_z f g xs ys zs)

pub zip3_z_yx : (f g : ℕ → ℕ → ℕ) (xs ys zs : List ℕ) → zip2 f zs (zip2 g ys xs) ≡ zip3 (λ a b d. f d (g b a)) xs ys zs
zip3_z_yx f g xs ys zs = zip2_swapped f (zip2 g ys xs) zs ∙ zip3_yx_z (λ p q. f q p) g xs ys zs

pub zip3_yz_x : (f g : ℕ → ℕ → ℕ) (xs ys zs : List ℕ) → zip2 f (zip2 g ys zs) xs ≡ zip3 (λ a b d. f (g b d) a) xs ys zs
zip3_yz_x f g [] [] zs = refl
zip3_yz_x f g [] (y ∷ ys) [] = refl
zip3_yz_x f g [] (y ∷ ys) (z ∷ zs) = refl
zip3_yz_x f g (x ∷ xs) [] zs = refl
zip3_yz_x f g (x ∷ xs) (y ∷ ys) [] = refl
zip3_yz_x f g (x ∷ xs) (y ∷ ys) (z ∷ zs) = ap (λ rs. f (g y z) x ∷ rs) (zip3_yz_x f g xs ys zs)

pub zip3_x_yz : (f g : ℕ → ℕ → ℕ) (xs ys zs : List ℕ) → zip2 f xs (zip2 g ys zs) ≡ zip3 (λ a b d. f a (g b d)) xs ys zs
zip3_x_yz f g xs ys zs = zip2_swapped f (zip2 g ys zs) xs ∙ zip3_yz_x (λ p q. f q p) g xs ys zs

-- vmacc, vnmsac, vmadd and vnmsub by sums, differences and products of vectors
pub macc_lanes : (w : Width) (xs ys zs : List ℕ) → zip3 (multiply_added Macc w) xs ys zs ≡ zip2 (λ a b. (a + b) % 2 ^ bits w) (zip2 (λ a b. a * b % 2 ^ bits w) ys xs) zs
unfolding multiply_added
macc_lanes w xs ys zs = sym (zip3_yx_z (λ a b. (a + b) % 2 ^ bits w) (λ a b. a * b % 2 ^ bits w) xs ys zs ∙ zip3_same xs ys zs (λ a b d. mod-add-mod (b * a) (2 ^ bits w) d))

pub nmsac_lanes : (w : Width) (xs ys zs : List ℕ) → zip3 (multiply_added Nmsac w) xs ys zs ≡ zip2 (λ a b. (a + (2 ^ bits w - b)) % 2 ^ bits w) zs (zip2 (λ a b. a * b % 2 ^ bits w) ys xs)
unfolding multiply_added
nmsac_lanes w xs ys zs = sym (zip3_z_yx (λ a b. (a + (2 ^ bits w - b)) % 2 ^ bits w) (λ a b. a * b % 2 ^ bits w) xs ys zs)

pub madd_lanes : (w : Width) (xs ys zs : List ℕ) → zip3 (multiply_added Madd w) xs ys zs ≡ zip2 (λ a b. (a + b) % 2 ^ bits w) (zip2 (λ a b. a * b % 2 ^ bits w) ys zs) xs
unfolding multiply_added
madd_lanes w xs ys zs = sym (zip3_yz_x (λ a b. (a + b) % 2 ^ bits w) (λ a b. a * b % 2 ^ bits w) xs ys zs ∙ zip3_same xs ys zs (λ a b d. mod-add-mod (b * d) (2 ^ bits w) a))

pub nmsub_lanes : (w : Width) (xs ys zs : List ℕ) → zip3 (multiply_added Nmsub w) xs ys zs ≡ zip2 (λ a b. (a + (2 ^ bits w - b)) % 2 ^ bits w) xs (zip2 (λ a b. a * b % 2 ^ bits w) ys zs)
unfolding multiply_added
nmsub_lanes w xs ys zs = sym (zip3_x_yz (λ a b. (a + (2 ^ bits w - b)) % 2 ^ bits w) (λ a b. a * b % 2 ^ bits w) xs ys zs)

pub ruleset multiply_adds = (macc_lanes, nmsac_lanes, madd_lanes, nmsub_lanes)

-- a choice of two splats by a comparison
pub select_splats : (t : ℕ → ℕ → Bool) (n y z : ℕ) (us vs : List ℕ) → length us ≡ n → sel_l (zip2 t us vs) (replicate n y) (replicate n z) ≡ zip2 (λ a b. cond (t a b) y z) us vs
select_splats t n y z [] vs long = refl
select_splats t n y z (u ∷ us) [] long = refl
select_splats t zero y z (u ∷ us) (v ∷ vs) long = absurd (omega (arith, long))
select_splats t (suc n) y z (u ∷ us) (v ∷ vs) long = ap (λ rs. cond (t u v) y z ∷ rs) (select_splats t n y z us vs (omega (arith, long)))

pub least : (a b : ℕ) → cond (ltb a b) a b ≡ min a b
least a b = elim (cases_lt a b) [
  | inl l ↦ rw (lt-ltb a b l) (omega (arith, l))
  | inr l ↦ rw (le-ltb a b l) (omega (arith, l))
]

pub greatest : (a b : ℕ) → cond (ltb a b) b a ≡ max a b
greatest a b = elim (cases_lt a b) [
  | inl l ↦ rw (lt-ltb a b l) (omega (arith, l))
  | inr l ↦ rw (le-ltb a b l) (omega (arith, l))
]

-- the lane of one vector or of the other, by a comparison
pub picked : (w : Width) (t : ℕ → ℕ → Bool) {holds : List ℕ} (xs ys : List ℕ) → holds ≡ zip2 (λ a b. cond (t a b) (2 ^ bits w - 1) 0) xs ys → sel_l (map (top (hbits w)) holds) xs ys ≡ zip2 (λ a b. cond (t a b) a b) xs ys
picked w t xs ys is = ap (λ hs. sel_l (map (top (hbits w)) hs) xs ys) is ∙ ap (λ ms. sel_l ms xs ys) (tops_compared w t xs ys) ∙ pick xs ys
  where
    pick : (xs ys : List ℕ) → sel_l (zip2 t xs ys) xs ys ≡ zip2 (λ a b. cond (t a b) a b) xs ys
    pick [] ys = refl
    pick (x ∷ xs) [] = refl
    pick (x ∷ xs) (y ∷ ys) = ap (λ rs. cond (t x y) x y ∷ rs) (pick xs ys)

-- lanes that a test chooses which is a compare on numbers below 2^SEW
pub compared : (w : Width) {t u : ℕ → ℕ → Bool} {holds : List ℕ} (xs ys us vs : List ℕ) → holds ≡ zip2 (λ a b. cond (t a b) (2 ^ bits w - 1) 0) xs ys → ((a b : ℕ) → a < 2 ^ bits w → b < 2 ^ bits w → t a b ≡ u a b) → Each1 (Fits w) xs → Each1 (Fits w) ys
    → sel_l (zip2 u xs ys) us vs ≡ sel_l (map (top (hbits w)) holds) us vs
compared w {t} {u} xs ys us vs is same fits_x fits_y =
    sym (ap (λ hs. sel_l (map (top (hbits w)) hs) us vs) is ∙ ap (λ ms. sel_l ms us vs) (tops_compared w t xs ys ∙ zip2_agrees w xs ys same fits_x fits_y))

-- a lane that was read
pub zip3_lane : (f : ℕ → ℕ → ℕ → ℕ) (n : ℕ) (xs ys zs : List ℕ) (i x : ℕ) → length xs ≡ n → length ys ≡ n → length zs ≡ n → i < n → x ≡ get_or (zip3 f xs ys zs) i x → x ≡ f (get_or xs i 0) (get_or ys i 0) (get_or zs i 0)
zip3_lane f n xs ys zs i x long_x long_y long_z lt is = is ∙ get_or-zip3 f xs ys zs i 0 0 0 x (omega (arith, long_x, lt)) (omega (arith, long_y, lt)) (omega (arith, long_z, lt))
