-- A word is put together from its fields, and an immediate gives back the bits that it was made of.
use Rattle.std.proofs.Common.{◌≡◌, ℕ, ◌+◌, ◌-◌, ◌*◌, ◌/◌, ◌%◌, ◌^◌, ◌<◌, ◌==◌, ℤ, pos, negsuc, ap, refl, sym, ◌∙◌, arith, inl, inr}
use Rattle.std.proofs.lemmas.Int.{ints}
use Rattle.std.proofs.lemmas.Bool.{cases_lt}
use Rattle.std.proofs.Math.Nat.{mod-eq_of_lt, mod-lt}
use Rattle.std.proofs.lemmas.Nat.{pow_pos}
use Rattle.rv_decode.specs.Bits.{bits, signed, immediate_i, immediate_s, immediate_b, immediate_u, immediate_j}
use Rattle.rv_decode.specs.Encode.{modulo, low_fields, middle_fields, encode_r, encode_i, encode_s, encode_b, encode_u, encode_j, IsSigned, IsUpper, IsEven}
use Rattle.rv_decode.specs.EncodeVector.{vm_of}
use Rattle.rv_decode.specs.Operations.{is_masked}
use Rattle.rv_decode.proofs.Places.{bits_of_parts, signed_small, signed_large}

pub below5 : (low word : ℕ) → bits low 5 word < 32
unfolding bits
below5 low word = mod-lt (word / 2 ^ low) (omega arith)

pub below : (low width m word : ℕ) → 2 ^ width ≡ m → 0 < m → bits low width word < m
unfolding bits
below low width m word e p = let h = mod-lt (word / 2 ^ low) p in grind (arith, h, e)

-- the same, with the power
bits_below : (low width word : ℕ) → bits low width word < 2 ^ width
bits_below low width word = below low width (2 ^ width) word refl (pow_pos width)

-- the vm bit says whether the operation is masked

bit_of : (n : ℕ) → n < 2 → n ≡ vm_of (n == 0)
bit_of n h = grind arith

pub mask_bit : (word : ℕ) → bits 25 1 word ≡ vm_of (is_masked word)
mask_bit word = bit_of (bits 25 1 word) (below 25 1 2 word refl (omega arith))

-- a signed number gives its bits back, and is in range

data Signed (sign n : ℕ) (z : ℤ) : Type 0 where
  small : n < sign → z ≡ pos n → Signed sign n z
  large : (k : ℕ) → k < sign → n ≡ 2 * sign - 1 - k → z ≡ negsuc k → Signed sign n z

cases_signed : (sign n : ℕ) → n < 2 * sign → Signed sign n (signed sign n)
cases_signed sign n h = elim (cases_lt n sign) [
  | inl low ↦ small low (signed_small sign n low)
  | inr high ↦
      let k : ℕ = 2 * sign - 1 - n in
      let e : n ≡ 2 * sign - 1 - k = omega arith in
      let less : k < sign = omega arith in
      large k less e (ap (signed sign) e ∙ signed_large sign k less)
]

modulo_of : (sign n : ℕ) (z : ℤ) → n < 2 * sign → Signed sign n z → modulo (2 * sign) z ≡ n
unfolding modulo
modulo_of sign n z h (small low e) = ap (modulo (2 * sign)) e ∙ mod-eq_of_lt h
modulo_of sign n z h (large k less e f) =
    let below : k < 2 * sign = omega arith in
    ap (modulo (2 * sign)) f ∙ ap (λ m. 2 * sign - 1 - m) (mod-eq_of_lt below) ∙ sym e

pub modulo_signed : (sign n : ℕ) → n < 2 * sign → modulo (2 * sign) (signed sign n) ≡ n
modulo_signed sign n h = modulo_of sign n (signed sign n) h (cases_signed sign n h)

fits_of : (sign n : ℕ) (z : ℤ) → Signed sign n z → IsSigned sign z
fits_of sign n z (small low e) = (omega (arith, ints), omega (arith, ints))
fits_of sign n z (large k less e f) = (omega (arith, ints), omega (arith, ints))

pub signed_fits : (sign n : ℕ) → n < 2 * sign → IsSigned sign (signed sign n)
signed_fits sign n h = fits_of sign n (signed sign n) (cases_signed sign n h)

even_of : (sign n : ℕ) (z : ℤ) → n % 2 ≡ 0 → Signed sign n z → IsEven z
unfolding modulo
even_of sign n z h (small low e) = ap (modulo 2) e ∙ h
even_of sign n z h (large k less e f) =
    let odd : 2 - 1 - k % 2 ≡ 0 = omega arith in
    ap (modulo 2) f ∙ odd

pub signed_even : (sign n : ℕ) → n < 2 * sign → n % 2 ≡ 0 → IsEven (signed sign n)
signed_even sign n h e = even_of sign n (signed sign n) e (cases_signed sign n h)

-- each format's word

pub whole_r : (word : ℕ) → word < 2 ^ 32 → word ≡ encode_r (bits 0 7 word) (bits 7 5 word) (bits 12 3 word) (bits 15 5 word) (bits 20 5 word) (bits 25 7 word)
unfolding bits encode_r low_fields
whole_r word w = omega arith

pub parts : (word : ℕ) → word < 2 ^ 32 → word ≡ bits 20 12 word * 2 ^ 20 + low_fields (bits 0 7 word) (bits 7 5 word) (bits 12 3 word) (bits 15 5 word)
unfolding bits low_fields
parts word w = omega arith

pub whole_i : (word : ℕ) → word < 2 ^ 32 → word ≡ encode_i (immediate_i word) (low_fields (bits 0 7 word) (bits 7 5 word) (bits 12 3 word) (bits 15 5 word))
unfolding encode_i immediate_i
whole_i word w =
    let n : bits 20 12 word < 4096 = below 20 12 4096 word refl (omega arith) in
    let joined : word ≡ bits 20 12 word * 2 ^ 20 + low_fields (bits 0 7 word) (bits 7 5 word) (bits 12 3 word) (bits 15 5 word) = parts word w in
    joined ∙ ap (λ m. m * 2 ^ 20 + low_fields (bits 0 7 word) (bits 7 5 word) (bits 12 3 word) (bits 15 5 word)) (sym (modulo_signed 2048 (bits 20 12 word) n))

-- the middle fields and the opcode, around two parts of an immediate
parts_sb : (word : ℕ) → word < 2 ^ 32 → word ≡ bits 25 7 word * 2 ^ 25 + middle_fields (bits 12 3 word) (bits 15 5 word) (bits 20 5 word) * 2 ^ 12 + bits 7 5 word * 2 ^ 7 + bits 0 7 word
unfolding bits middle_fields
parts_sb word w = omega arith

join_s : (a b middle opcode : ℕ) → a < 128 → b < 32 → encode_s (signed 2048 (a * 32 + b)) middle opcode ≡ a * 2 ^ 25 + middle * 2 ^ 12 + b * 2 ^ 7 + opcode
unfolding encode_s
join_s a b middle opcode p q =
    let n : modulo 4096 (signed 2048 (a * 32 + b)) ≡ a * 32 + b = modulo_signed 2048 (a * 32 + b) (omega arith) in
    let high : bits 5 7 (a * 32 + b) ≡ a = bits_of_parts 5 7 0 a b (a * 32 + b) (omega arith) p q in
    let low : bits 0 5 (a * 32 + b) ≡ b = bits_of_parts 0 5 a b 0 (a * 32 + b) (omega arith) q (omega arith) in
    cc

pub whole_s : (word : ℕ) → word < 2 ^ 32 → word ≡ encode_s (immediate_s word) (middle_fields (bits 12 3 word) (bits 15 5 word) (bits 20 5 word)) (bits 0 7 word)
unfolding immediate_s
whole_s word w =
    parts_sb word w ∙
    sym (join_s (bits 25 7 word) (bits 7 5 word) (middle_fields (bits 12 3 word) (bits 15 5 word) (bits 20 5 word)) (bits 0 7 word) (below 25 7 128 word refl (omega arith)) (below5 7 word))

parts_b : (word : ℕ) → (bits 25 7 word ≡ bits 31 1 word * 64 + bits 25 6 word) × (bits 7 5 word ≡ bits 8 4 word * 2 + bits 7 1 word)
unfolding bits
parts_b word = (omega arith, omega arith)

join_b : (a b d e middle opcode : ℕ) → a < 2 → b < 64 → d < 16 → e < 2 → encode_b (signed 4096 (a * 4096 + e * 2048 + b * 32 + d * 2)) middle opcode ≡ a * 2 ^ 31 + b * 2 ^ 25 + middle * 2 ^ 12 + d * 2 ^ 8 + e * 2 ^ 7 + opcode
unfolding encode_b
join_b a b d e middle opcode p q r s =
    let n : ℕ = a * 4096 + e * 2048 + b * 32 + d * 2 in
    let back : modulo 8192 (signed 4096 n) ≡ n = modulo_signed 4096 n (omega arith) in
    let at_a : bits 12 1 n ≡ a = bits_of_parts 12 1 0 a (e * 2048 + b * 32 + d * 2) n (omega arith) p (omega arith) in
    let at_b : bits 5 6 n ≡ b = bits_of_parts 5 6 (a * 2 + e) b (d * 2) n (omega arith) q (omega arith) in
    let at_d : bits 1 4 n ≡ d = bits_of_parts 1 4 (a * 128 + e * 64 + b) d 0 n (omega arith) r (omega arith) in
    let at_e : bits 11 1 n ≡ e = bits_of_parts 11 1 a e (b * 32 + d * 2) n (omega arith) s (omega arith) in
    cc

pub whole_b : (word : ℕ) → word < 2 ^ 32 → word ≡ encode_b (immediate_b word) (middle_fields (bits 12 3 word) (bits 15 5 word) (bits 20 5 word)) (bits 0 7 word)
unfolding immediate_b
whole_b word w =
    let split = parts_b word in
    let joined : word ≡ bits 31 1 word * 2 ^ 31 + bits 25 6 word * 2 ^ 25 + middle_fields (bits 12 3 word) (bits 15 5 word) (bits 20 5 word) * 2 ^ 12 + bits 8 4 word * 2 ^ 8 + bits 7 1 word * 2 ^ 7 + bits 0 7 word = omega (arith, parts_sb word w, split.0, split.1) in
    joined ∙
    sym (join_b (bits 31 1 word) (bits 25 6 word) (bits 8 4 word) (bits 7 1 word) (middle_fields (bits 12 3 word) (bits 15 5 word) (bits 20 5 word)) (bits 0 7 word) (below 31 1 2 word refl (omega arith)) (below 25 6 64 word refl (omega arith)) (below 8 4 16 word refl (omega arith)) (below 7 1 2 word refl (omega arith)))

pub whole_u : (word : ℕ) → word < 2 ^ 32 → word ≡ encode_u (immediate_u word) (bits 7 5 word * 2 ^ 7 + bits 0 7 word)
unfolding bits encode_u immediate_u
whole_u word w = omega arith

parts_j : (word : ℕ) → word < 2 ^ 32 → word ≡ bits 31 1 word * 2 ^ 31 + bits 21 10 word * 2 ^ 21 + bits 20 1 word * 2 ^ 20 + bits 12 8 word * 2 ^ 12 + (bits 7 5 word * 2 ^ 7 + bits 0 7 word)
unfolding bits
parts_j word w = omega arith

join_j : (a b d e low : ℕ) → a < 2 → b < 1024 → d < 2 → e < 256 → encode_j (signed 1048576 (a * 1048576 + e * 4096 + d * 2048 + b * 2)) low ≡ a * 2 ^ 31 + b * 2 ^ 21 + d * 2 ^ 20 + e * 2 ^ 12 + low
unfolding encode_j
join_j a b d e low p q r s =
    let n : ℕ = a * 1048576 + e * 4096 + d * 2048 + b * 2 in
    let back : modulo 2097152 (signed 1048576 n) ≡ n = modulo_signed 1048576 n (omega arith) in
    let at_a : bits 20 1 n ≡ a = bits_of_parts 20 1 0 a (e * 4096 + d * 2048 + b * 2) n (omega arith) p (omega arith) in
    let at_b : bits 1 10 n ≡ b = bits_of_parts 1 10 (a * 512 + e * 2 + d) b 0 n (omega arith) q (omega arith) in
    let at_d : bits 11 1 n ≡ d = bits_of_parts 11 1 (a * 256 + e) d (b * 2) n (omega arith) r (omega arith) in
    let at_e : bits 12 8 n ≡ e = bits_of_parts 12 8 a e (d * 2048 + b * 2) n (omega arith) s (omega arith) in
    cc

pub whole_j : (word : ℕ) → word < 2 ^ 32 → word ≡ encode_j (immediate_j word) (bits 7 5 word * 2 ^ 7 + bits 0 7 word)
unfolding immediate_j
whole_j word w =
    parts_j word w ∙
    sym (join_j (bits 31 1 word) (bits 21 10 word) (bits 20 1 word) (bits 12 8 word) _ (below 31 1 2 word refl (omega arith)) (below 21 10 1024 word refl (omega arith)) (below 20 1 2 word refl (omega arith)) (below 12 8 256 word refl (omega arith)))

-- the immediates are in range

pub fits_i : (word : ℕ) → IsSigned 2048 (immediate_i word)
unfolding immediate_i
fits_i word = signed_fits 2048 (bits 20 12 word) (below 20 12 4096 word refl (omega arith))

pub fits_s : (word : ℕ) → IsSigned 2048 (immediate_s word)
unfolding immediate_s
fits_s word =
    let high : bits 25 7 word < 128 = below 25 7 128 word refl (omega arith) in
    let low : bits 7 5 word < 32 = below5 7 word in
    signed_fits 2048 (bits 25 7 word * 32 + bits 7 5 word) (omega arith)

fits_even : (sign n : ℕ) → n < 2 * sign → n % 2 ≡ 0 → IsSigned sign (signed sign n) × IsEven (signed sign n)
fits_even sign n h even = (signed_fits sign n h, signed_even sign n h even)

pub fits_b : (word : ℕ) → IsSigned 4096 (immediate_b word) × IsEven (immediate_b word)
unfolding immediate_b
fits_b word =
    let n : ℕ = bits 31 1 word * 4096 + bits 7 1 word * 2048 + bits 25 6 word * 32 + bits 8 4 word * 2 in
    fits_even 4096 n (omega (arith, bits_below 31 1 word, bits_below 7 1 word, bits_below 25 6 word, bits_below 8 4 word)) (omega arith)

pub fits_u : (word : ℕ) → IsUpper (immediate_u word)
unfolding bits immediate_u
fits_u word = (omega arith, omega arith)

pub fits_j : (word : ℕ) → IsSigned 1048576 (immediate_j word) × IsEven (immediate_j word)
unfolding immediate_j
fits_j word =
    let n : ℕ = bits 31 1 word * 1048576 + bits 12 8 word * 4096 + bits 20 1 word * 2048 + bits 21 10 word * 2 in
    fits_even 1048576 n (omega (arith, bits_below 31 1 word, bits_below 12 8 word, bits_below 20 1 word, bits_below 21 10 word)) (omega arith)
