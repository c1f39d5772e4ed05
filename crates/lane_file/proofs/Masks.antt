-- Flags of the bytes of elements whose bits are set: each is the bit of v0, in a place of a byte of it.
use Rattle.std.proofs.Common.{◌≡◌, ℕ, ◌+◌, ◌*◌, ◌/◌, ◌%◌, ◌^◌, ◌<◌, ◌==◌, Bool, true, false, List, [], ◌∷◌, zero, suc, get_or, replicate, refl, ap, sym, ◌∙◌, arith, cond, inl, inr, if◌then◌else◌}
use Rattle.std.specs.Simd.Lanes.{zip2}
use Rattle.std.specs.Int.RustNames.{bit_and}
use Rattle.std.specs.Int as int
use Rattle.std.proofs.lemmas.Bool.{cases_lt}
use Rattle.std.proofs.lemmas.Bool.Decides.{eqb_tells}
use Rattle.std.proofs.lemmas.Nat.{pow_pos}
use Rattle.std.proofs.lemmas.Nat.Bits.{and_pow, bit_at-lt}
use Rattle.vreg_groups.specs.Elements.{mask_bit, bit_at, bit_of}
use Rattle.lane_file.specs.InPlace.{AreFlags}

pub differ : {A : Type 0} (x : Bool) → x ≡ true → x ≡ false → A
differ x p q = absurd (omega (arith, ap {B = ℕ} (λ t. cond t 1 0) (sym p ∙ q)))

-- a bit of a byte, in its place
bit_kept : (byte j flag : ℕ) → flag ≡ bit_and byte (2 ^ j) → (bit_of byte j ≡ true → 0 < flag) × (bit_of byte j ≡ false → flag ≡ 0)
unfolding bit_of
bit_kept byte j flag is =
    let e : flag ≡ int.bit_at byte j * 2 ^ j = is ∙ and_pow byte j in
    let some = pow_pos j in
    elim (eqb_tells (byte / 2 ^ j % 2) 1) [
      | inl one ↦ (
        λ yes. let f : flag ≡ 1 * 2 ^ j = e ∙ ap (λ b. b * 2 ^ j) one.1 in omega (arith, f, some),
        λ no. differ (byte / 2 ^ j % 2 == 1) one.0 no,
      )
      | inr other ↦ (
        λ yes. differ (byte / 2 ^ j % 2 == 1) yes other.0,
        λ no. let z : int.bit_at byte j ≡ 0 = none (int.bit_at byte j) (bit_at-lt byte j) other.1 in e ∙ ap (λ b. b * 2 ^ j) z ∙ omega arith,
      )
    ]
  where
    none : (b : ℕ) → b < 2 → (b ≡ 1 → ⊥) → b ≡ 0
    none zero lt other = refl
    none (suc zero) lt other = absurd (other refl)
    none (suc (suc b)) lt other = absurd (omega (arith, lt))

mask_kept : (vlenb i p j byte flag : ℕ) (file : List ℕ) → i / 8 ≡ p → i % 8 ≡ j → byte ≡ get_or file (0 * vlenb + p) 0 → flag ≡ bit_and byte (2 ^ j) → (mask_bit vlenb 0 file i ≡ true → 0 < flag) × (mask_bit vlenb 0 file i ≡ false → flag ≡ 0)
unfolding mask_bit bit_at
mask_kept vlenb i p j byte flag file is_p is_j is_byte is_flag =
    let same : bit_of (get_or file (0 * vlenb + i / 8) 0) (i % 8) ≡ bit_of byte j = ap (λ q. bit_of (get_or file (0 * vlenb + q) 0) (i % 8)) is_p ∙ ap (λ b. bit_of b (i % 8)) (sym is_byte) ∙ ap (bit_of byte) is_j in
    let kept = bit_kept byte j flag is_flag in (λ yes. kept.0 (sym same ∙ yes), λ no. kept.1 (sym same ∙ no))

in_bytes : (a b : ℕ) (r : List ℕ) → r ≡ zip2 bit_and (a ∷ a ∷ a ∷ a ∷ a ∷ a ∷ a ∷ a ∷ b ∷ b ∷ b ∷ b ∷ b ∷ b ∷ b ∷ b ∷ []) (1 ∷ 2 ∷ 4 ∷ 8 ∷ 16 ∷ 32 ∷ 64 ∷ 128 ∷ 1 ∷ 2 ∷ 4 ∷ 8 ∷ 16 ∷ 32 ∷ 64 ∷ 128 ∷ []) → (k : ℕ) → k < 16 → get_or r k 0 ≡ bit_and (if k / 8 == 0 then a else b) (2 ^ (k % 8))
in_bytes a b r is zero lt = ap (λ l. get_or l 0 0) is
in_bytes a b r is (suc zero) lt = ap (λ l. get_or l 1 0) is
in_bytes a b r is (suc (suc zero)) lt = ap (λ l. get_or l 2 0) is
in_bytes a b r is (suc (suc (suc zero))) lt = ap (λ l. get_or l 3 0) is
in_bytes a b r is (suc (suc (suc (suc zero)))) lt = ap (λ l. get_or l 4 0) is
in_bytes a b r is (suc (suc (suc (suc (suc zero))))) lt = ap (λ l. get_or l 5 0) is
in_bytes a b r is (suc (suc (suc (suc (suc (suc zero)))))) lt = ap (λ l. get_or l 6 0) is
in_bytes a b r is (suc (suc (suc (suc (suc (suc (suc zero))))))) lt = ap (λ l. get_or l 7 0) is
in_bytes a b r is (suc (suc (suc (suc (suc (suc (suc (suc zero)))))))) lt = ap (λ l. get_or l 8 0) is
in_bytes a b r is (suc (suc (suc (suc (suc (suc (suc (suc (suc zero))))))))) lt = ap (λ l. get_or l 9 0) is
in_bytes a b r is (suc (suc (suc (suc (suc (suc (suc (suc (suc (suc zero)))))))))) lt = ap (λ l. get_or l 10 0) is
in_bytes a b r is (suc (suc (suc (suc (suc (suc (suc (suc (suc (suc (suc zero))))))))))) lt = ap (λ l. get_or l 11 0) is
in_bytes a b r is (suc (suc (suc (suc (suc (suc (suc (suc (suc (suc (suc (suc zero)))))))))))) lt = ap (λ l. get_or l 12 0) is
in_bytes a b r is (suc (suc (suc (suc (suc (suc (suc (suc (suc (suc (suc (suc (suc zero))))))))))))) lt = ap (λ l. get_or l 13 0) is
in_bytes a b r is (suc (suc (suc (suc (suc (suc (suc (suc (suc (suc (suc (suc (suc (suc zero)))))))))))))) lt = ap (λ l. get_or l 14 0) is
in_bytes a b r is (suc (suc (suc (suc (suc (suc (suc (suc (suc (suc (suc (suc (suc (suc (suc zero))))))))))))))) lt = ap (λ l. get_or l 15 0) is
in_bytes a b r is (suc (suc (suc (suc (suc (suc (suc (suc (suc (suc (suc (suc (suc (suc (suc (suc k)))))))))))))))) lt = absurd (omega (arith, lt))

in_halves : (a : ℕ) (r : List ℕ) → r ≡ zip2 bit_and (replicate 16 a) (1 ∷ 1 ∷ 2 ∷ 2 ∷ 4 ∷ 4 ∷ 8 ∷ 8 ∷ 16 ∷ 16 ∷ 32 ∷ 32 ∷ 64 ∷ 64 ∷ 128 ∷ 128 ∷ []) → (k : ℕ) → k < 16 → get_or r k 0 ≡ bit_and a (2 ^ (k / 2))
in_halves a r is zero lt = ap (λ l. get_or l 0 0) is
in_halves a r is (suc zero) lt = ap (λ l. get_or l 1 0) is
in_halves a r is (suc (suc zero)) lt = ap (λ l. get_or l 2 0) is
in_halves a r is (suc (suc (suc zero))) lt = ap (λ l. get_or l 3 0) is
in_halves a r is (suc (suc (suc (suc zero)))) lt = ap (λ l. get_or l 4 0) is
in_halves a r is (suc (suc (suc (suc (suc zero))))) lt = ap (λ l. get_or l 5 0) is
in_halves a r is (suc (suc (suc (suc (suc (suc zero)))))) lt = ap (λ l. get_or l 6 0) is
in_halves a r is (suc (suc (suc (suc (suc (suc (suc zero))))))) lt = ap (λ l. get_or l 7 0) is
in_halves a r is (suc (suc (suc (suc (suc (suc (suc (suc zero)))))))) lt = ap (λ l. get_or l 8 0) is
in_halves a r is (suc (suc (suc (suc (suc (suc (suc (suc (suc zero))))))))) lt = ap (λ l. get_or l 9 0) is
in_halves a r is (suc (suc (suc (suc (suc (suc (suc (suc (suc (suc zero)))))))))) lt = ap (λ l. get_or l 10 0) is
in_halves a r is (suc (suc (suc (suc (suc (suc (suc (suc (suc (suc (suc zero))))))))))) lt = ap (λ l. get_or l 11 0) is
in_halves a r is (suc (suc (suc (suc (suc (suc (suc (suc (suc (suc (suc (suc zero)))))))))))) lt = ap (λ l. get_or l 12 0) is
in_halves a r is (suc (suc (suc (suc (suc (suc (suc (suc (suc (suc (suc (suc (suc zero))))))))))))) lt = ap (λ l. get_or l 13 0) is
in_halves a r is (suc (suc (suc (suc (suc (suc (suc (suc (suc (suc (suc (suc (suc (suc zero)))))))))))))) lt = ap (λ l. get_or l 14 0) is
in_halves a r is (suc (suc (suc (suc (suc (suc (suc (suc (suc (suc (suc (suc (suc (suc (suc zero))))))))))))))) lt = ap (λ l. get_or l 15 0) is
in_halves a r is (suc (suc (suc (suc (suc (suc (suc (suc (suc (suc (suc (suc (suc (suc (suc (suc k)))))))))))))))) lt = absurd (omega (arith, lt))

in_low_words : (a : ℕ) (r : List ℕ) → r ≡ zip2 bit_and (replicate 16 a) (1 ∷ 1 ∷ 1 ∷ 1 ∷ 2 ∷ 2 ∷ 2 ∷ 2 ∷ 4 ∷ 4 ∷ 4 ∷ 4 ∷ 8 ∷ 8 ∷ 8 ∷ 8 ∷ []) → (k : ℕ) → k < 16 → get_or r k 0 ≡ bit_and a (2 ^ (k / 4))
in_low_words a r is zero lt = ap (λ l. get_or l 0 0) is
in_low_words a r is (suc zero) lt = ap (λ l. get_or l 1 0) is
in_low_words a r is (suc (suc zero)) lt = ap (λ l. get_or l 2 0) is
in_low_words a r is (suc (suc (suc zero))) lt = ap (λ l. get_or l 3 0) is
in_low_words a r is (suc (suc (suc (suc zero)))) lt = ap (λ l. get_or l 4 0) is
in_low_words a r is (suc (suc (suc (suc (suc zero))))) lt = ap (λ l. get_or l 5 0) is
in_low_words a r is (suc (suc (suc (suc (suc (suc zero)))))) lt = ap (λ l. get_or l 6 0) is
in_low_words a r is (suc (suc (suc (suc (suc (suc (suc zero))))))) lt = ap (λ l. get_or l 7 0) is
in_low_words a r is (suc (suc (suc (suc (suc (suc (suc (suc zero)))))))) lt = ap (λ l. get_or l 8 0) is
in_low_words a r is (suc (suc (suc (suc (suc (suc (suc (suc (suc zero))))))))) lt = ap (λ l. get_or l 9 0) is
in_low_words a r is (suc (suc (suc (suc (suc (suc (suc (suc (suc (suc zero)))))))))) lt = ap (λ l. get_or l 10 0) is
in_low_words a r is (suc (suc (suc (suc (suc (suc (suc (suc (suc (suc (suc zero))))))))))) lt = ap (λ l. get_or l 11 0) is
in_low_words a r is (suc (suc (suc (suc (suc (suc (suc (suc (suc (suc (suc (suc zero)))))))))))) lt = ap (λ l. get_or l 12 0) is
in_low_words a r is (suc (suc (suc (suc (suc (suc (suc (suc (suc (suc (suc (suc (suc zero))))))))))))) lt = ap (λ l. get_or l 13 0) is
in_low_words a r is (suc (suc (suc (suc (suc (suc (suc (suc (suc (suc (suc (suc (suc (suc zero)))))))))))))) lt = ap (λ l. get_or l 14 0) is
in_low_words a r is (suc (suc (suc (suc (suc (suc (suc (suc (suc (suc (suc (suc (suc (suc (suc zero))))))))))))))) lt = ap (λ l. get_or l 15 0) is
in_low_words a r is (suc (suc (suc (suc (suc (suc (suc (suc (suc (suc (suc (suc (suc (suc (suc (suc k)))))))))))))))) lt = absurd (omega (arith, lt))

in_high_words : (a : ℕ) (r : List ℕ) → r ≡ zip2 bit_and (replicate 16 a) (16 ∷ 16 ∷ 16 ∷ 16 ∷ 32 ∷ 32 ∷ 32 ∷ 32 ∷ 64 ∷ 64 ∷ 64 ∷ 64 ∷ 128 ∷ 128 ∷ 128 ∷ 128 ∷ []) → (k : ℕ) → k < 16 → get_or r k 0 ≡ bit_and a (2 ^ (4 + k / 4))
in_high_words a r is zero lt = ap (λ l. get_or l 0 0) is
in_high_words a r is (suc zero) lt = ap (λ l. get_or l 1 0) is
in_high_words a r is (suc (suc zero)) lt = ap (λ l. get_or l 2 0) is
in_high_words a r is (suc (suc (suc zero))) lt = ap (λ l. get_or l 3 0) is
in_high_words a r is (suc (suc (suc (suc zero)))) lt = ap (λ l. get_or l 4 0) is
in_high_words a r is (suc (suc (suc (suc (suc zero))))) lt = ap (λ l. get_or l 5 0) is
in_high_words a r is (suc (suc (suc (suc (suc (suc zero)))))) lt = ap (λ l. get_or l 6 0) is
in_high_words a r is (suc (suc (suc (suc (suc (suc (suc zero))))))) lt = ap (λ l. get_or l 7 0) is
in_high_words a r is (suc (suc (suc (suc (suc (suc (suc (suc zero)))))))) lt = ap (λ l. get_or l 8 0) is
in_high_words a r is (suc (suc (suc (suc (suc (suc (suc (suc (suc zero))))))))) lt = ap (λ l. get_or l 9 0) is
in_high_words a r is (suc (suc (suc (suc (suc (suc (suc (suc (suc (suc zero)))))))))) lt = ap (λ l. get_or l 10 0) is
in_high_words a r is (suc (suc (suc (suc (suc (suc (suc (suc (suc (suc (suc zero))))))))))) lt = ap (λ l. get_or l 11 0) is
in_high_words a r is (suc (suc (suc (suc (suc (suc (suc (suc (suc (suc (suc (suc zero)))))))))))) lt = ap (λ l. get_or l 12 0) is
in_high_words a r is (suc (suc (suc (suc (suc (suc (suc (suc (suc (suc (suc (suc (suc zero))))))))))))) lt = ap (λ l. get_or l 13 0) is
in_high_words a r is (suc (suc (suc (suc (suc (suc (suc (suc (suc (suc (suc (suc (suc (suc zero)))))))))))))) lt = ap (λ l. get_or l 14 0) is
in_high_words a r is (suc (suc (suc (suc (suc (suc (suc (suc (suc (suc (suc (suc (suc (suc (suc zero))))))))))))))) lt = ap (λ l. get_or l 15 0) is
in_high_words a r is (suc (suc (suc (suc (suc (suc (suc (suc (suc (suc (suc (suc (suc (suc (suc (suc k)))))))))))))))) lt = absurd (omega (arith, lt))

pub byte_flags : (vlenb m a b : ℕ) (file flags : List ℕ) → a ≡ get_or file (0 * vlenb + 2 * m) 0 → b ≡ get_or file (0 * vlenb + (2 * m + 1)) 0 → flags ≡ zip2 bit_and (a ∷ a ∷ a ∷ a ∷ a ∷ a ∷ a ∷ a ∷ b ∷ b ∷ b ∷ b ∷ b ∷ b ∷ b ∷ b ∷ []) (1 ∷ 2 ∷ 4 ∷ 8 ∷ 16 ∷ 32 ∷ 64 ∷ 128 ∷ 1 ∷ 2 ∷ 4 ∷ 8 ∷ 16 ∷ 32 ∷ 64 ∷ 128 ∷ []) → AreFlags vlenb 1 m file flags
byte_flags vlenb m a b file flags is_a is_b is k i lt low high =
    elim (cases_lt k 8) [
      | inl less ↦
          let none : k / 8 ≡ 0 = omega (arith, less) in
          mask_kept vlenb i (2 * m) (k % 8) a (get_or flags k 0) file (omega (arith, less, low, high)) (omega (arith, less, low, high)) is_a
          (in_bytes a b flags is k lt ∙ ap (λ q. bit_and (if q == 0 then a else b) (2 ^ (k % 8))) none)
      | inr more ↦
          let one : k / 8 ≡ 1 = omega (arith, more, lt) in
          mask_kept vlenb i (2 * m + 1) (k % 8) b (get_or flags k 0) file (omega (arith, more, lt, low, high)) (omega (arith, more, lt, low, high)) is_b
          (in_bytes a b flags is k lt ∙ ap (λ q. bit_and (if q == 0 then a else b) (2 ^ (k % 8))) one)
    ]

pub half_flags : (vlenb m a : ℕ) (file flags : List ℕ) → a ≡ get_or file (0 * vlenb + m) 0 → flags ≡ zip2 bit_and (replicate 16 a) (1 ∷ 1 ∷ 2 ∷ 2 ∷ 4 ∷ 4 ∷ 8 ∷ 8 ∷ 16 ∷ 16 ∷ 32 ∷ 32 ∷ 64 ∷ 64 ∷ 128 ∷ 128 ∷ []) → AreFlags vlenb 2 m file flags
half_flags vlenb m a file flags is_a is k i lt low high =
    mask_kept vlenb i m (k / 2) a (get_or flags k 0) file (omega (arith, lt, low, high)) (omega (arith, lt, low, high)) is_a (in_halves a flags is k lt)

pub low_word_flags : (vlenb m a : ℕ) (file flags : List ℕ) → m % 2 ≡ 0 → a ≡ get_or file (0 * vlenb + m / 2) 0 → flags ≡ zip2 bit_and (replicate 16 a) (1 ∷ 1 ∷ 1 ∷ 1 ∷ 2 ∷ 2 ∷ 2 ∷ 2 ∷ 4 ∷ 4 ∷ 4 ∷ 4 ∷ 8 ∷ 8 ∷ 8 ∷ 8 ∷ []) → AreFlags vlenb 4 m file flags
low_word_flags vlenb m a file flags even is_a is k i lt low high =
    mask_kept vlenb i (m / 2) (k / 4) a (get_or flags k 0) file (omega (arith, even, lt, low, high)) (omega (arith, even, lt, low, high)) is_a (in_low_words a flags is k lt)

pub high_word_flags : (vlenb m a : ℕ) (file flags : List ℕ) → (m % 2 ≡ 0 → ⊥) → a ≡ get_or file (0 * vlenb + m / 2) 0 → flags ≡ zip2 bit_and (replicate 16 a) (16 ∷ 16 ∷ 16 ∷ 16 ∷ 32 ∷ 32 ∷ 32 ∷ 32 ∷ 64 ∷ 64 ∷ 64 ∷ 64 ∷ 128 ∷ 128 ∷ 128 ∷ 128 ∷ []) → AreFlags vlenb 4 m file flags
high_word_flags vlenb m a file flags odd is_a is k i lt low high =
    let one : m % 2 ≡ 1 = is_one (m % 2) (omega arith) odd in
    mask_kept vlenb i (m / 2) (4 + k / 4) a (get_or flags k 0) file (omega (arith, one, lt, low, high)) (omega (arith, one, lt, low, high)) is_a (in_high_words a flags is k lt)
  where
    is_one : (r : ℕ) → r < 2 → (r ≡ 0 → ⊥) → r ≡ 1
    is_one zero lt odd = absurd (odd refl)
    is_one (suc zero) lt odd = refl
    is_one (suc (suc r)) lt odd = absurd (omega (arith, lt))
