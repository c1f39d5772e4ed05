-- Operations in place, chunk after chunk.
use Rattle.std.proofs.Common.{◌≡◌, inl, inr, ℕ, ◌+◌, ◌-◌, ◌*◌, ◌/◌, ◌%◌, ◌^◌, ◌<◌, ◌≤◌, Bool, true, false, List, zero, suc, length, get_or, refl, ap, ap₂, sym, ◌∙◌, arith, if◌then◌else◌}
use lib.Lanes.{chunk, put_chunk}
use Rattle.std.proofs.Math.Nat.{mul-le-mul_left}
use Rattle.std.proofs.lemmas.Bool.{cases_lt}
use Rattle.std.proofs.lemmas.Simd.{get_or-chunk, get_or-put_chunk_below, get_or-put_chunk_at, get_or-put_chunk_above, length-put_chunk}
use Rattle.byteorder.specs.Endian.{little_from}
use Rattle.vreg_groups.specs.Elements.{bit_at, bit_of, mask_bit}
use Rattle.vreg_groups.specs.NewElements.{filled}
use Rattle.vreg_groups.specs.declared.policies.Agnostic.{Agnostic}
use Rattle.lane_file.specs.declared.second.Second.{Second}
use Rattle.lane_file.specs.declared.second.Second.TheVariants.{Group, Splat}
use Rattle.lane_file.specs.InPlace.{Apart, IsSecondApart, IsDone, IsKept, is_active, other_of, target}

-- a number is made of its own bytes alone
pub same_number : (n a b : ℕ) (xs ys : List ℕ) → ((k i j : ℕ) → k < n → i ≡ a + k → j ≡ b + k → get_or xs i 0 ≡ get_or ys j 0) → little_from a n xs ≡ little_from b n ys
same_number zero a b xs ys h = refl
same_number (suc n) a b xs ys h =
    let low : get_or xs a 0 ≡ get_or ys b 0 = h 0 a b (omega arith) (omega arith) (omega arith) in
    let high : little_from (suc a) n xs ≡ little_from (suc b) n ys =
    same_number n (suc a) (suc b) xs ys (λ k i j lt p q. h (suc k) i j (omega (arith, lt)) (omega (arith, p)) (omega (arith, q))) in
    ap₂ (λ x y. x + 256 * y) low high

-- element j of a chunk lies in it
pub inside : (s c j : ℕ) → s * c ≡ 16 → j < c → s * j + s ≤ 16
inside s c j is lt = let e : s * (j + 1) ≤ s * c = mul-le-mul_left s (omega (arith, lt)) in omega (arith, e, is)

pub some : (s c : ℕ) → s * c ≡ 16 → 1 ≤ s
some zero c e = absurd (omega (arith, e))
some (suc s) c e = omega arith

-- where element j of chunk m lies
pub place_in : (s c m j : ℕ) → s * c ≡ 16 → s * (c * m + j) ≡ 16 * m + s * j
place_in s c m j is = let f : s * c * m ≡ 16 * m = ap (λ z. z * m) is in omega (arith, f)

-- lanes that were read, and lanes that were written
pub lane_read : (s c j a : ℕ) (old xs : List ℕ) → s * c ≡ 16 → j < c → xs ≡ chunk a 16 old → little_from (s * j) s xs ≡ little_from (a + s * j) s old
lane_read s c j a old xs sizes lt is =
    let within : s * j + s ≤ 16 = inside s c j sizes lt in
    same_number s (s * j) (a + s * j) xs old (λ k i m less p q.
    ap (λ l. get_or l i 0) is ∙ get_or-chunk a 16 old i 0 (omega (arith, less, p, within)) ∙ ap (λ t. get_or old t 0) (omega (arith, p, q)))

pub byte_put : (d k : ℕ) (old rs new : List ℕ) → d + 16 ≤ length old → length rs ≡ 16 → new ≡ put_chunk d old rs → k < 16 → get_or new (d + k) 0 ≡ get_or rs k 0
byte_put d k old rs new room long is lt = ap (λ l. get_or l (d + k) 0) is ∙ get_or-put_chunk_at d old rs k 0 (omega (arith, long, lt)) (omega (arith, long, room))

pub lane_put : (s c j d : ℕ) (old rs new : List ℕ) → s * c ≡ 16 → j < c → d + 16 ≤ length old → length rs ≡ 16 → new ≡ put_chunk d old rs → little_from (d + s * j) s new ≡ little_from (s * j) s rs
lane_put s c j d old rs new sizes lt room long is =
    let within : s * j + s ≤ 16 = inside s c j sizes lt in
    same_number s (d + s * j) (s * j) new rs (λ k i m less p q.
    ap (λ t. get_or new t 0) (omega (arith, p, q)) ∙ byte_put d m old rs new room long is (omega (arith, less, q, within)))

pub chunk_kept : (d : ℕ) (old rs new : List ℕ) → length rs ≡ 16 → new ≡ put_chunk d old rs → IsKept d 16 old new
chunk_kept d old rs new long is = (
  ap length is ∙ length-put_chunk d old rs,
  λ k outside. ap (λ l. get_or l k 0) is ∙ (elim outside [
    | inl below ↦ get_or-put_chunk_below d old rs k 0 below
    | inr past ↦ get_or-put_chunk_above d old rs k 0 (omega (arith, long, past))
  ]),
)

-- fewer bytes, where the others of the chunk are as they were
pub fewer_kept : (d n : ℕ) (old new : List ℕ) → IsKept d 16 old new → ((k : ℕ) → k < 16 → n ≤ k → get_or new (d + k) 0 ≡ get_or old (d + k) 0) → IsKept d n old new
fewer_kept d n old new kept rest = (
  kept.0,
  λ k outside. elim outside [
    | inl below ↦ kept.1 k (inl below)
    | inr past ↦ elim (cases_lt k (d + 16)) [
      | inl inner ↦
          let e : k ≡ d + (k - d) = omega (arith, past) in
          ap (λ t. get_or new t 0) e ∙ rest (k - d) (omega (arith, inner, past)) (omega (arith, past)) ∙ ap (λ t. get_or old t 0) (sym e)
      | inr beyond ↦ kept.1 k (inr beyond)
    ]
  ],
)

-- no bytes yet
pub none_done : (s c d n : ℕ) (z : ℕ → ℕ) (file : List ℕ) → s * c ≡ 16 → n ≡ 0 → IsDone s d z n file
none_done zero c d n z file sizes e i le = absurd (omega (arith, sizes))
none_done (suc s) c d n z file sizes e i le = absurd (omega (arith, e, le))

-- one more chunk, its first bytes of the body
pub more_done : (s c d m n : ℕ) (z : ℕ → ℕ) (now new : List ℕ) → s * c ≡ 16 → 16 * m ≤ n → n ≤ 16 * m + 16 → IsDone s d z (16 * m) now
    → ((j : ℕ) → j < c → s * j + s ≤ n - 16 * m → little_from (d + 16 * m + s * j) s new ≡ z (c * m + j))
    → ((k : ℕ) → k < d + 16 * m → get_or new k 0 ≡ get_or now k 0) → IsDone s d z n new
more_done s c d m n z now new sizes low high before step kept i le =
    let f : s * c * m ≡ 16 * m = ap (λ t. t * m) sizes in
    elim (cases_lt i (c * m)) [
      | inl early ↦
          let e : s * (i + 1) ≤ s * (c * m) = mul-le-mul_left s (omega (arith, early)) in
          let within : s * i + s ≤ 16 * m = omega (arith, e, f) in
          same_number s (d + s * i) (d + s * i) new now (λ k p q less is_p is_q.
          kept p (omega (arith, is_p, less, within)) ∙ ap (λ t. get_or now t 0) (omega (arith, is_p, is_q)))
          ∙ before i within
      | inr late ↦
          let g : s * i ≡ s * (c * m + (i - c * m)) = ap (λ t. s * t) (omega (arith, late)) in
          let h : s * i ≡ 16 * m + s * (i - c * m) = omega (arith, f, g) in
          let within : s * (i - c * m) + s ≤ n - 16 * m = omega (arith, h, le, low) in
          let lt : i - c * m < c = elim (cases_lt (i - c * m) c) [
            | inl fine ↦ fine
            | inr big ↦ let t : s * c ≤ s * (i - c * m) = mul-le-mul_left s big in absurd (omega (arith, t, sizes, within, high, some s c sizes))
          ] in
          ap (λ t. little_from t s new) (omega (arith, h)) ∙ step (i - c * m) lt within ∙ ap z (omega (arith, late))
    ]

pub more_kept : (d m n : ℕ) (old now new : List ℕ) → 16 * m ≤ n → IsKept d (16 * m) old now → IsKept (d + 16 * m) (n - 16 * m) now new → IsKept d n old new
more_kept d m n old now new low kept step = (
  step.0 ∙ kept.0,
  λ k outside. elim outside [
    | inl below ↦ step.1 k (inl (omega (arith, below))) ∙ kept.1 k (inl below)
    | inr past ↦ step.1 k (inr (omega (arith, past, low))) ∙ kept.1 k (inr (omega (arith, past, low)))
  ],
)

-- ---- what a chunk reads is as it was before the first

still : (d a m n k : ℕ) (old now : List ℕ) → Apart d a n → IsKept d (16 * m) old now → 16 * m ≤ k → k < n → get_or now (a + k) 0 ≡ get_or old (a + k) 0
still d a m n k old now apart kept low high =
    elim apart [
      | inl same ↦ kept.1 (a + k) (inr (omega (arith, same, low)))
      | inr other ↦ elim other [
        | inl below ↦ kept.1 (a + k) (inl (omega (arith, below, high)))
        | inr past ↦ kept.1 (a + k) (inr (omega (arith, past, low, high)))
      ]
    ]

pub source_still : (s c d a m n i : ℕ) (old now : List ℕ) → Apart d a n → IsKept d (16 * m) old now → 16 * m ≤ s * i → s * i + s ≤ n → little_from (a + s * i) s now ≡ little_from (a + s * i) s old
source_still s c d a m n i old now apart kept low high =
    same_number s (a + s * i) (a + s * i) now old (λ k p q less is_p is_q.
    let to : p ≡ a + (s * i + k) = omega (arith, is_p) in
    ap (λ t. get_or now t 0) to ∙ still d a m n (s * i + k) old now apart kept (omega (arith, low)) (omega (arith, high, less)) ∙ ap (λ t. get_or old t 0) (omega (arith, is_q)))

other_still : {A : Type 0} (vlenb s d m n i : ℕ) (number : A → ℕ) (b : Second A) (old now : List ℕ) → IsSecondApart vlenb d b n → IsKept d (16 * m) old now → 16 * m ≤ s * i → s * i + s ≤ n → other_of vlenb s number b (s * i) now ≡ other_of vlenb s number b (s * i) old
other_still vlenb s d m n i number (Group vs1) old now apart kept low high = source_still s 0 d (vs1 * vlenb) m n i old now apart kept low high
other_still vlenb s d m n i number (Splat value) old now apart kept low high = refl

-- v0 is before the group
mask_still : (vlenb d n i : ℕ) (old now : List ℕ) → vlenb ≤ d → i < 8 * vlenb → IsKept d n old now → mask_bit vlenb 0 now i ≡ mask_bit vlenb 0 old i
unfolding mask_bit bit_at
mask_still vlenb d n i old now le lt kept = ap (λ byte. bit_of byte (i % 8)) (kept.1 (0 * vlenb + i / 8) (inl (omega (arith, le, lt))))

active_still : (vlenb d n i : ℕ) (masked : Bool) (old now : List ℕ) → (masked ≡ true → vlenb ≤ d) → i < 8 * vlenb → IsKept d n old now → is_active vlenb masked i now ≡ is_active vlenb masked i old
active_still vlenb d n i true old now le lt kept = mask_still vlenb d n i old now (le refl) lt kept
active_still vlenb d n i false old now le lt kept = refl

pub target_still : {A : Type 0} (vlenb s c d a m n j : ℕ) (number : A → ℕ) (f : ℕ → ℕ → ℕ → ℕ) (b : Second A) (masked : Bool) (inactive : Agnostic) (old now : List ℕ) → s * c ≡ 16 → j < c → 16 * m + s * j + s ≤ n → n ≤ 8 * vlenb
    → Apart d a n → IsSecondApart vlenb d b n → (masked ≡ true → vlenb ≤ d) → IsKept d (16 * m) old now
    → target vlenb s number f d a b masked inactive now (c * m + j) ≡ target vlenb s number f d a b masked inactive old (c * m + j)
target_still vlenb s c d a m n j number f b masked inactive old now sizes lt room bits apart_a apart_b stays kept =
    let i = c * m + j in
    let at : s * i ≡ 16 * m + s * j = place_in s c m j sizes in
    let low : 16 * m ≤ s * i = omega (arith, at) in
    let high : s * i + s ≤ n = omega (arith, at, room) in
    let few : i < 8 * vlenb = below s i (8 * vlenb) (some s c sizes) (omega (arith, high, bits)) in
    let act : is_active vlenb masked i now ≡ is_active vlenb masked i old = active_still vlenb d (16 * m) i masked old now stays few kept in
    let x : little_from (a + s * i) s now ≡ little_from (a + s * i) s old = source_still s c d a m n i old now apart_a kept low high in
    let y : other_of vlenb s number b (s * i) now ≡ other_of vlenb s number b (s * i) old = other_still vlenb s d m n i number b old now apart_b kept low high in
    let v : little_from (d + s * i) s now ≡ little_from (d + s * i) s old = source_still s c d d m n i old now (inl refl) kept low high in
    ap₂ (λ yes r. if yes then r else filled inactive (256 ^ s - 1) (little_from (d + s * i) s now)) act (ap₂ (λ p q. f p q (little_from (d + s * i) s now)) x y)
    ∙ ap (λ o. if is_active vlenb masked i old then f (little_from (a + s * i) s old) (other_of vlenb s number b (s * i) old) o else filled inactive (256 ^ s - 1) o) v
  where
    below : (s i n : ℕ) → 1 ≤ s → s * i + s ≤ n → i < n
    below zero i n le h = absurd (omega (arith, le))
    below (suc s) i n le h = omega (arith, h)

pub kept_is : (d n : ℕ) (old mid new : List ℕ) → new ≡ mid → IsKept d n old mid → IsKept d n old new
kept_is d n old mid new is kept = (ap length is ∙ kept.0, λ k outside. ap (λ l. get_or l k 0) is ∙ kept.1 k outside)

-- the place up to which an operation is done, after one more chunk with r bytes of the body
pub more_chunk : {A : Type 0} (vlenb s c d a m n r room : ℕ) (number : A → ℕ) (f : ℕ → ℕ → ℕ → ℕ) (b : Second A) (masked : Bool) (inactive : Agnostic) (old now new : List ℕ) → s * c ≡ 16 → n ≡ 16 * m + r → r ≤ 16 → 16 * m + 16 ≤ room → room ≤ 8 * vlenb
    → Apart d a room → IsSecondApart vlenb d b room → (masked ≡ true → vlenb ≤ d)
    → IsDone s d (target vlenb s number f d a b masked inactive old) (16 * m) now → IsKept d (16 * m) old now
    → ((j : ℕ) → j < c → s * j + s ≤ r → little_from (d + 16 * m + s * j) s new ≡ target vlenb s number f d a b masked inactive now (c * m + j))
    → IsKept (d + 16 * m) r now new
    → IsDone s d (target vlenb s number f d a b masked inactive old) n new × IsKept d n old new
more_chunk vlenb s c d a m n r room number f b masked inactive old now new sizes is_n few inside_room bits apart_a apart_b stays done kept step kept_step = (
  more_done s c d m n (target vlenb s number f d a b masked inactive old) now new sizes (omega (arith, is_n)) (omega (arith, is_n, few)) done
      (λ j lt within. step j lt (omega (arith, within, is_n))
      ∙ target_still vlenb s c d a m room j number f b masked inactive old now sizes lt (omega (arith, within, is_n, few, inside_room)) bits apart_a apart_b stays kept)
      (λ k lt. kept_step.1 k (inl lt)),
  more_kept d m n old now new (omega (arith, is_n)) kept (
    kept_step.0,
    λ k outside. kept_step.1 k (elim outside [
      | inl below ↦ inl below
      | inr past ↦ inr (omega (arith, past, is_n))
    ]),
  ),
)

pub done_is : (s d n : ℕ) (z y : ℕ → ℕ) (mid new : List ℕ) → new ≡ mid → ((i : ℕ) → z i ≡ y i) → IsDone s d z n mid → IsDone s d y n new
done_is s d n z y mid new is same done i le = ap (little_from (d + s * i) s) is ∙ done i le ∙ same i
