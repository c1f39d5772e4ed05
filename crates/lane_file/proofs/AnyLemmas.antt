-- Whether one of several elements saturates, told from the bytes of their flags.
use Rattle.std.proofs.Common.{◌≡◌, inl, inr, ℕ, ◌+◌, ◌-◌, ◌*◌, ◌/◌, ◌%◌, ◌^◌, ◌<◌, ◌≤◌, ◌==◌, ◌&&◌, ◌||◌, not, Bool, true, false, cond, List, [], ◌∷◌, zero, suc, length, get_or, map, refl, ap, ap₂, sym, ◌∙◌, arith, lit<, w8, w16, w32, w64}
use lib.Lanes.{mask_l, zip2}
use mir.Val.{bits}
use Rattle.std.specs.Int.{Width, w128}
use Rattle.std.specs.List.{list_any}
use Rattle.std.proofs.Math.Nat.{mul-le-mul_left}
use Rattle.std.proofs.lemmas.Bool.{cases_lt}
use Rattle.std.proofs.lemmas.Bool.Decides.{eqb_tells}
use Rattle.std.proofs.lemmas.Nat.{div-add-mod', mod_below}
use Rattle.std.proofs.lemmas.Simd.{get_or-zip2, length-zip2}
use Rattle.byteorder.specs.Endian.{little_from}
use Rattle.lane_fixed.specs.Chunks.{lane_flag, lane_saturates}
use Rattle.lane_fixed.specs.declared.operations.Op.{Op}
use Rattle.std.proofs.Common.{subst, ℤ}
use Rattle.std.specs.Ordering.{int_eq}
use Rattle.std.specs.List.{range_with_len}
use Rattle.std.proofs.lemmas.Bool.Decides.{Decides-int_eq}
use Rattle.std.proofs.lemmas.List.{length-map, length-replicate}
use Rattle.std.proofs.lemmas.List.FromFn.{length-range_with_len}
use Rattle.lane_fixed.specs.FixedPoint.{any_active, clipped, saturates, unclipped}
use Rattle.lane_fixed.specs.declared.operations.RoundingMode.{RoundingMode}
use Rattle.rv_decode.specs.declared.instructions.FixedOp.{FixedOp}
use Rattle.rv_decode.specs.declared.instructions.FixedOp.TheVariants as fixed
use Rattle.lane_fixed.specs.declared.operations.Op.TheVariants.{Saddu, Sadd, Ssubu, Ssub, Aaddu, Aadd, Asubu, Asub, Ssrl, Ssra}
use Rattle.vreg_groups.specs.Elements.{active_of, elements_of, mask_bits}
use Rattle.lane_file.specs.declared.second.Second.{Second}
use Rattle.lane_file.specs.InPlace.{any_of, clips, holds_at, second_list}
use Rattle.lane_file.proofs.Groups.{active_there, element_there, length-elements, length-second, second_there}
use Rattle.lane_file.proofs.Steps.{some}

-- ---- one of several

unequal : {A : Type 0} → true ≡ false → A
unequal e = absurd (omega (arith, ap {B = ℕ} (λ t. cond t 1 0) e))

pub any_of_none : (t : ℕ → Bool) (n : ℕ) → ((i : ℕ) → i < n → t i ≡ false) → any_of t n ≡ false
any_of_none t zero h = refl
any_of_none t (suc n) h = ap₂ (λ x y. x || y) (h 0 (omega arith)) (any_of_none (λ i. t (suc i)) n (λ i lt. h (suc i) (omega (arith, lt))))

either_none : (x y : Bool) → (x || y) ≡ false → (x ≡ false) × (y ≡ false)
either_none false y e = (refl, e)
either_none true y e = unequal e

pub none_of : (t : ℕ → Bool) (n i : ℕ) → any_of t n ≡ false → i < n → t i ≡ false
none_of t zero i e lt = absurd (omega (arith, lt))
none_of t (suc n) zero e lt = (either_none (t 0) (any_of (λ i. t (suc i)) n) e).0
none_of t (suc n) (suc i) e lt = none_of (λ i. t (suc i)) n i (either_none (t 0) (any_of (λ i. t (suc i)) n) e).1 (omega (arith, lt))

pub any_of_same : (t u : ℕ → Bool) (n : ℕ) → ((i : ℕ) → i < n → t i ≡ u i) → any_of t n ≡ any_of u n
any_of_same t u zero h = refl
any_of_same t u (suc n) h = ap₂ (λ x y. x || y) (h 0 (omega arith)) (any_of_same (λ i. t (suc i)) (λ i. u (suc i)) n (λ i lt. h (suc i) (omega (arith, lt))))

either_assoc : (x y z : Bool) → (x || (y || z)) ≡ ((x || y) || z)
either_assoc false y z = refl
either_assoc true y z = refl

pub any_of_more : (t : ℕ → Bool) (a b n : ℕ) → n ≡ a + b → any_of t n ≡ (any_of t a || any_of (λ i. t (a + i)) b)
any_of_more t zero b n e =
    let same : n ≡ b = omega (arith, e) in
    ap (any_of t) same ∙ any_of_same t (λ i. t (0 + i)) b (λ i lt. ap t (omega arith))
any_of_more t (suc a) b zero e = absurd (omega (arith, e))
any_of_more t (suc a) b (suc n) e =
    ap (λ x. t 0 || x) (any_of_more (λ i. t (suc i)) a b n (omega (arith, e)))
    ∙ either_assoc (t 0) (any_of (λ i. t (suc i)) a) (any_of (λ i. t (suc (a + i))) b)
    ∙ ap (λ x. (t 0 || any_of (λ i. t (suc i)) a) || x) (any_of_same (λ i. t (suc (a + i))) (λ i. t (suc a + i)) b (λ i lt. ap t (omega arith)))

pub any_of_list : (t : ℕ → Bool) (n : ℕ) (bs : List Bool) → length bs ≡ n → ((i : ℕ) → i < n → get_or bs i false ≡ t i) → list_any (λ b. b) bs ≡ any_of t n
any_of_list t zero [] long h = refl
any_of_list t (suc n) [] long h = absurd (omega (arith, long))
any_of_list t zero (b ∷ bs) long h = absurd (omega (arith, long))
any_of_list t (suc n) (b ∷ bs) long h = ap₂ (λ x y. x || y) (h 0 (omega arith)) (any_of_list (λ i. t (suc i)) n bs (omega (arith, long)) (λ i lt. h (suc i) (omega (arith, lt))))

-- ---- bytes that are 0

pub zero_bytes : (n a k : ℕ) (xs : List ℕ) → little_from a n xs ≡ 0 → k < n → get_or xs (a + k) 0 ≡ 0
zero_bytes zero a k xs e lt = absurd (omega (arith, lt))
zero_bytes (suc n) a zero xs e lt =
    let sum : get_or xs a 0 + 256 * little_from (suc a) n xs ≡ 0 = e in
    let low : get_or xs a 0 ≡ 0 = omega (arith, sum) in
    let at : a + 0 ≡ a = omega arith in
    ap (λ i. get_or xs i 0) at ∙ low
zero_bytes (suc n) a (suc k) xs e lt =
    let sum : get_or xs a 0 + 256 * little_from (suc a) n xs ≡ 0 = e in
    let at : a + suc k ≡ suc a + k = omega arith in
    ap (λ i. get_or xs i 0) at ∙ zero_bytes n (suc a) k xs (omega (arith, sum)) (omega (arith, lt))

pub bytes_zero : (n a : ℕ) (xs : List ℕ) → ((k : ℕ) → k < n → get_or xs (a + k) 0 ≡ 0) → little_from a n xs ≡ 0
bytes_zero zero a xs h = refl
bytes_zero (suc n) a xs h =
    let low : get_or xs a 0 ≡ 0 = ap (λ i. get_or xs i 0) (omega arith) ∙ h 0 (omega arith) in
    let high : little_from (suc a) n xs ≡ 0 = bytes_zero n (suc a) xs (λ k lt. ap (λ i. get_or xs i 0) (omega arith) ∙ h (suc k) (omega (arith, lt))) in
    omega (arith, low, high)

-- a test of a mask
pub unset : {m : ℕ} (x : ℕ) → m ≡ x → not (m == 0) ≡ false → x ≡ 0
unset {m} x e none = elim (eqb_tells m 0) [
  | inl is ↦ sym e ∙ is.1
  | inr other ↦ unequal (sym (ap not (other.0)) ∙ none)
]

pub is_unset : {m : ℕ} (x : ℕ) → m ≡ x → x ≡ 0 → not (m == 0) ≡ false
is_unset {m} x e none = elim (eqb_tells m 0) [
  | inl is ↦ ap not (is.0)
  | inr other ↦ absurd (other.1 (e ∙ none))
]

-- lanes with no bit of the mask set
pub no_bit : (fs : List ℕ) (k : ℕ) → mask_l (map (λ f. not (f == 0)) fs) ≡ 0 → get_or fs k 0 ≡ 0
no_bit [] k e = refl
no_bit (f ∷ fs) zero e = elim (eqb_tells f 0) [
  | inl is ↦ is.1
  | inr other ↦ absurd (omega (arith, ap {B = ℕ} (λ t. cond (not t) 1 0) (other.0), e))
]
no_bit (f ∷ fs) (suc k) e = no_bit fs k (omega (arith, e))

pub all_clear : (n : ℕ) (fs : List ℕ) → length fs ≡ n → ((k : ℕ) → k < n → get_or fs k 0 ≡ 0) → mask_l (map (λ f. not (f == 0)) fs) ≡ 0
all_clear n [] long h = refl
all_clear zero (f ∷ fs) long h = absurd (omega (arith, long))
all_clear (suc n) (f ∷ fs) long h =
    let none : f ≡ 0 = h 0 (omega arith) in
    let rest : mask_l (map (λ f. not (f == 0)) fs) ≡ 0 = all_clear n fs (omega (arith, long)) (λ k lt. h (suc k) (omega (arith, lt))) in
    let first : cond (not (f == 0)) 1 0 ≡ 0 = ap {B = ℕ} (λ z. cond (not (z == 0)) 1 0) none in
    omega (arith, first, rest)

-- ---- one chunk

-- the bytes of elements are not 0 where some of them saturate, and nowhere else
pub any_told : (s k n : ℕ) (t : ℕ → Bool) (lanes : List ℕ) (result : Bool) → 1 ≤ s → s * k ≡ n → n ≤ 16
    → ((p : ℕ) → p < 16 → n ≤ p → get_or lanes p 0 ≡ 0)
    → ((j : ℕ) → j < k → ((q : ℕ) → q < s → get_or lanes (s * j + q) 0 ≡ 0) → t j ≡ false)
    → ((j : ℕ) → j < k → t j ≡ false → (q : ℕ) → q < s → get_or lanes (s * j + q) 0 ≡ 0)
    → (result ≡ false → (p : ℕ) → p < 16 → get_or lanes p 0 ≡ 0)
    → (((p : ℕ) → p < 16 → get_or lanes p 0 ≡ 0) → result ≡ false)
    → result ≡ any_of t k
any_told s k n t lanes false least is few rest clear set none all =
    sym (any_of_none t k (λ j lt.
    let le : s * (j + 1) ≤ s * k = mul-le-mul_left s (omega (arith, lt)) in
    clear j lt (λ q less. none refl (s * j + q) (omega (arith, le, is, few, less)))))
any_told s k n t lanes true least is few rest clear set none all = go (any_of t k) refl
  where
    at : (p q r : ℕ) → q * s + r ≡ p → r < s → p < n → any_of t k ≡ false → get_or lanes p 0 ≡ 0
    at p q r e less lt nobody =
        let early : q < k = elim (cases_lt q k) [
          | inl fine ↦ fine
          | inr late ↦ let le : s * k ≤ s * q = mul-le-mul_left s late in absurd (omega (arith, le, e, is, lt))
        ] in
        ap (λ i. get_or lanes i 0) (omega (arith, e)) ∙ set q early (none_of t k q nobody early) r less

    go : (x : Bool) → any_of t k ≡ x → true ≡ any_of t k
    go true e = sym e
    go false e = unequal (all (λ p lt. elim (cases_lt p n) [
      | inl inner ↦ at p (p / s) (p % s) (div-add-mod' p s) (mod_below p s least) inner e
      | inr past ↦ rest p lt past
    ]))

some_ones : (w : Width) → 0 < 2 ^ bits w - 1
some_ones w8 = lit< tt
some_ones w16 = lit< tt
some_ones w32 = lit< tt
some_ones w64 = lit< tt
some_ones w128 = lit< tt

-- an element whose bytes are 0 is not active, or does not saturate
pub clear_told : (w : Width) (op : Op) (s j x y : ℕ) (act : Bool) (saturated lanes : List ℕ)
    → little_from (s * j) s saturated ≡ lane_flag op w x y
    → (act ≡ true → (q : ℕ) → q < s → get_or lanes (s * j + q) 0 ≡ get_or saturated (s * j + q) 0)
    → ((q : ℕ) → q < s → get_or lanes (s * j + q) 0 ≡ 0) → (act && lane_saturates op w x y) ≡ false
clear_told w op s j x y false saturated lanes is on zeros = refl
clear_told w op s j x y true saturated lanes is on zeros = go (lane_saturates op w x y) refl
  where
    go : (z : Bool) → lane_saturates op w x y ≡ z → lane_saturates op w x y ≡ false
    go false e = e
    go true e =
        let none : little_from (s * j) s saturated ≡ 0 = bytes_zero s (s * j) saturated (λ q less. sym (on refl q less) ∙ zeros q less) in
        let ones : lane_flag op w x y ≡ 2 ^ bits w - 1 = ap (λ b. cond b (2 ^ bits w - 1) 0) e in
        absurd (omega (arith, some_ones w, sym none ∙ is ∙ ones))

-- and the other way round
pub set_told : (w : Width) (op : Op) (s j x y : ℕ) (act : Bool) (saturated lanes : List ℕ)
    → little_from (s * j) s saturated ≡ lane_flag op w x y
    → (act ≡ true → (q : ℕ) → q < s → get_or lanes (s * j + q) 0 ≡ get_or saturated (s * j + q) 0)
    → (act ≡ false → (q : ℕ) → q < s → get_or lanes (s * j + q) 0 ≡ 0)
    → (act && lane_saturates op w x y) ≡ false → (q : ℕ) → q < s → get_or lanes (s * j + q) 0 ≡ 0
set_told w op s j x y false saturated lanes is on off silent q less = off refl q less
set_told w op s j x y true saturated lanes is on off silent q less =
    let none : lane_flag op w x y ≡ 0 = ap (λ b. cond b (2 ^ bits w - 1) 0) silent in
    on refl q less ∙ zero_bytes s (s * j) q saturated (is ∙ none) less

-- ---- the whole body

-- the flags of active elements in a list
pub any_active_list : (test : ℕ → ℕ → Bool) (t : ℕ → Bool) (n : ℕ) (xs ys : List ℕ) (active : List Bool) → length xs ≡ n → length ys ≡ n → length active ≡ n
    → ((i : ℕ) → i < n → (get_or active i false && test (get_or xs i 0) (get_or ys i 0)) ≡ t i)
    → list_any (λ b. b) (zip2 (λ a s. a && s) active (zip2 test xs ys)) ≡ any_of t n
any_active_list test t n xs ys active long_x long_y long_a h =
    let tests : length (zip2 test xs ys) ≡ length xs = length-zip2 test xs ys (long_x ∙ sym long_y) in
    any_of_list t n (zip2 (λ a s. a && s) active (zip2 test xs ys)) (length-zip2 (λ a s. a && s) active (zip2 test xs ys) (long_a ∙ sym (tests ∙ long_x)) ∙ long_a)
    (λ i lt.
    get_or-zip2 (λ a s. a && s) active (zip2 test xs ys) i false false false (omega (arith, lt, long_a)) (omega (arith, lt, tests, long_x))
    ∙ ap (λ s. get_or active i false && s) (get_or-zip2 test xs ys i 0 0 false (omega (arith, lt, long_x)) (omega (arith, lt, long_y)))
    ∙ h i lt)

length-active : (vlenb n : ℕ) (masked : Bool) (file : List ℕ) → length (active_of vlenb masked n file) ≡ n
unfolding active_of mask_bits
length-active vlenb n true file = length-map (range_with_len 0 n) _ ∙ length-range_with_len 0 n
length-active vlenb n false file = length-replicate n true

-- of the elements at places
pub any_active_is : {A : Type 0} (vlenb s bytes first place vl : ℕ) (number : A → ℕ) (test : ℕ → ℕ → Bool) (b : Second A) (masked : Bool) (file : List ℕ) (result : Bool) → s ≡ bytes → place ≡ first * vlenb
    → result ≡ any_of (holds_at vlenb s number test place b masked file) vl
    → result ≡ any_active test (elements_of vlenb bytes first vl file) (second_list vlenb bytes number vl b file) (active_of vlenb masked vl file)
unfolding any_active
any_active_is vlenb s bytes first place vl number test b masked file result is_size is_place is =
    let at : result ≡ any_of (holds_at vlenb bytes number test (first * vlenb) b masked file) vl =
    subst (λ (z : ℕ). result ≡ any_of (holds_at vlenb z number test (first * vlenb) b masked file) vl) is_size
    (subst (λ (z : ℕ). result ≡ any_of (holds_at vlenb s number test z b masked file) vl) is_place is) in
    at
    ∙ sym (any_active_list test (holds_at vlenb bytes number test (first * vlenb) b masked file) vl (elements_of vlenb bytes first vl file) (second_list vlenb bytes number vl b file) (active_of vlenb masked vl file)
    (length-elements vlenb bytes first vl file) (length-second vlenb bytes vl number b file) (length-active vlenb vl masked file)
    (λ i lt. ap₂ (λ x y. x && y) (active_there vlenb vl masked file i lt) (ap₂ test (element_there vlenb bytes first vl file i 0 lt) (second_there vlenb bytes vl number b file i 0 lt))))

-- what is not clipped never saturates
pub never : (op : FixedOp) (mode : RoundingMode) (w : Width) (x y : ℕ) → ((v : ℤ) → clipped op w v ≡ v) → saturates op mode w x y ≡ false
unfolding saturates
never op mode w x y kept =
    let v = unclipped op mode w x y in
    ap (λ z. not (int_eq z v)) (kept v) ∙ ap not ((Decides-int_eq v v).1 refl)

pub never_at : {A : Type 0} (vlenb s a k : ℕ) (number : A → ℕ) (test : ℕ → ℕ → Bool) (b : Second A) (masked : Bool) (file : List ℕ) → ((x y : ℕ) → test x y ≡ false) → false ≡ any_of (holds_at vlenb s number test a b masked file) k
never_at vlenb s a k number test b masked file silent =
    sym (any_of_none (holds_at vlenb s number test a b masked file) k (λ i lt. and_none _ _ (silent _ _)))
  where
    and_none : (x y : Bool) → y ≡ false → (x && y) ≡ false
    and_none true y e = e
    and_none false y e = refl

-- the operations that do not clip
pub never_clips : (op : Op) (w : Width) (x y : ℕ) → clips op ≡ false → lane_saturates op w x y ≡ false
unfolding clipped
never_clips Saddu w x y e = unequal e
never_clips Sadd w x y e = unequal e
never_clips Ssubu w x y e = unequal e
never_clips Ssub w x y e = unequal e
never_clips (Aaddu mode) w x y e = never fixed.Aaddu mode w x y (λ v. refl)
never_clips (Aadd mode) w x y e = never fixed.Aadd mode w x y (λ v. refl)
never_clips (Asubu mode) w x y e = never fixed.Asubu mode w x y (λ v. refl)
never_clips (Asub mode) w x y e = never fixed.Asub mode w x y (λ v. refl)
never_clips (Ssrl mode) w x y e = never fixed.Ssrl mode w x y (λ v. refl)
never_clips (Ssra mode) w x y e = never fixed.Ssra mode w x y (λ v. refl)

-- ---- chunks of a body

pub few_of : (s c k n : ℕ) → s * c ≡ 16 → s * k ≡ n → n ≤ 16 → k ≤ c
few_of s c k n sizes is few = elim (cases_lt c k) [
  | inl more ↦ let e : s * (c + 1) ≤ s * k = mul-le-mul_left s (omega (arith, more)) in absurd (omega (arith, e, sizes, is, few, some s c sizes))
  | inr fine ↦ fine
]

pub rest_of : (s c m k n : ℕ) → s * c ≡ 16 → s * k ≡ n → 16 * m ≤ n → (k ≡ c * m + (k - c * m)) × (s * (k - c * m) ≡ n - 16 * m)
rest_of s c m k n sizes is low =
    let f : s * c * m ≡ 16 * m = ap (λ z. z * m) sizes in
    let le : c * m ≤ k = elim (cases_lt k (c * m)) [
      | inl less ↦ let e : s * (k + 1) ≤ s * (c * m) = mul-le-mul_left s (omega (arith, less)) in absurd (omega (arith, e, f, is, low, some s c sizes))
      | inr fine ↦ fine
    ] in
    let g : s * k ≡ s * (c * m + (k - c * m)) = ap (λ t. s * t) (omega (arith, le)) in
    (omega (arith, le), omega (arith, f, g, is))

pub all_of : (s c m k n : ℕ) → s * c ≡ 16 → s * k ≡ n → n ≡ 16 * m → k ≡ c * m
all_of s c m k n sizes is last =
    let rest = rest_of s c m k n sizes is (omega (arith, last)) in
    elim (cases_lt 0 (k - c * m)) [
      | inl more ↦ let e : s * 1 ≤ s * (k - c * m) = mul-le-mul_left s (omega (arith, more)) in absurd (omega (arith, e, rest.1, last, some s c sizes))
      | inr none ↦ omega (arith, rest.0, none)
    ]
