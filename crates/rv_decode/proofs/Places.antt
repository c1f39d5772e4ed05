-- A field of a number that is given by its parts, and signed numbers there and back.
use Rattle.std.proofs.Common.{◌≡◌, ℕ, ◌+◌, ◌-◌, ◌*◌, ◌/◌, ◌%◌, ◌^◌, ◌<◌, ◌≤◌, ℤ, pos, negsuc, ◌-ℤ◌, ◌≤ℤ◌, ap, refl, ◌∙◌, arith}
use Rattle.std.proofs.lemmas.Nat.{shr_high, mod_low}
use Rattle.std.proofs.lemmas.Int.{ints}
use Rattle.std.proofs.Math.Nat.{mod-eq_of_lt, mod-lt}
use Rattle.rv_decode.specs.Bits.{bits, signed, immediate_i, immediate_s, immediate_b, immediate_u, immediate_j}
use Rattle.rv_decode.specs.Encode.{modulo, encode_i, encode_s, encode_b, encode_u, encode_j}

pub bits_of_parts : (low width high part rest word : ℕ) → word ≡ (high * 2 ^ width + part) * 2 ^ low + rest → part < 2 ^ width → rest < 2 ^ low → bits low width word ≡ part
unfolding bits
bits_of_parts low width high part rest word e p r =
    ap (λ n. n / 2 ^ low % 2 ^ width) e ∙
    ap (λ n. n % 2 ^ width) (shr_high (high * 2 ^ width + part) low rest r) ∙
    mod_low high width part p

pub signed_small : (sign n : ℕ) → n < sign → signed sign n ≡ pos n
unfolding signed
signed_small sign n h = grind arith

pub signed_large : (sign k : ℕ) → k < sign → signed sign (2 * sign - 1 - k) ≡ negsuc k
unfolding signed
signed_large sign k h =
    let big : sign ≤ 2 * sign - 1 - k = omega arith in
    let turned : pos (2 * sign - 1 - k) -ℤ pos (2 * sign) ≡ negsuc k = omega (arith, ints) in
    grind (arith, turned)

pub signed_modulo : (sign : ℕ) (z : ℤ) → negsuc (sign - 1) ≤ℤ z → z ≤ℤ pos (sign - 1) → 0 < sign → signed sign (modulo (2 * sign) z) ≡ z
unfolding modulo
signed_modulo sign (pos n) low high s =
    let h : n < sign = omega (arith, ints) in
    let small : n < 2 * sign = omega arith in
    ap (signed sign) (mod-eq_of_lt small) ∙ signed_small sign n h
signed_modulo sign (negsuc k) low high s =
    let h : k < sign = omega (arith, ints) in
    let small : k < 2 * sign = omega arith in
    ap (λ m. signed sign (2 * sign - 1 - m)) (mod-eq_of_lt small) ∙ signed_large sign k h

pub modulo_below : (m : ℕ) (z : ℤ) → 0 < m → modulo m z < m
unfolding modulo
modulo_below m (pos n) h = omega (arith, mod-lt n h)
modulo_below m (negsuc n) h = omega arith

-- each format's places give the immediate's bits back

pub read_i : (n low : ℕ) → n < 4096 → low < 2 ^ 20 → bits 20 12 (n * 2 ^ 20 + low) ≡ n
read_i n low p q = bits_of_parts 20 12 0 n low (n * 2 ^ 20 + low) (omega arith) p q

parts_s : (n a b : ℕ) → n < 4096 → a ≡ bits 5 7 n → b ≡ bits 0 5 n → (a * 32 + b ≡ n) × (a < 128) × (b < 32)
unfolding bits
parts_s n a b p e f = (omega arith, omega arith, omega arith)

pub read_s : (n a b middle opcode : ℕ) → n < 4096 → a ≡ bits 5 7 n → b ≡ bits 0 5 n → middle < 2 ^ 13 → opcode < 2 ^ 7 → (word : ℕ) → word ≡ a * 2 ^ 25 + middle * 2 ^ 12 + b * 2 ^ 7 + opcode → bits 25 7 word * 32 + bits 7 5 word ≡ n
read_s n a b middle opcode p e f m o word w =
    let parts = parts_s n a b p e f in
    let low : b < 32 = parts.2 in
    let high : a < 128 = parts.1 in
    let first : bits 25 7 word ≡ a = bits_of_parts 25 7 0 a (middle * 2 ^ 12 + b * 2 ^ 7 + opcode) word (omega arith) high (omega arith) in
    let second : bits 7 5 word ≡ b = bits_of_parts 7 5 (a * 2 ^ 13 + middle) b opcode word (omega arith) low o in
    omega (arith, first, second, parts.0)

parts_b : (n a b d e : ℕ) → n < 8192 → n % 2 ≡ 0 → a ≡ bits 12 1 n → b ≡ bits 5 6 n → d ≡ bits 1 4 n → e ≡ bits 11 1 n → (a * 4096 + e * 2048 + b * 32 + d * 2 ≡ n) × (a < 2) × (b < 64) × (d < 16) × (e < 2)
unfolding bits
parts_b n a b d e p z e1 e2 e3 e4 = (omega arith, omega arith, omega arith, omega arith, omega arith)

pub read_b : (n a b d e middle opcode : ℕ) → n < 8192 → n % 2 ≡ 0 → a ≡ bits 12 1 n → b ≡ bits 5 6 n → d ≡ bits 1 4 n → e ≡ bits 11 1 n → middle < 2 ^ 13 → opcode < 2 ^ 7 → (word : ℕ) → word ≡ a * 2 ^ 31 + b * 2 ^ 25 + middle * 2 ^ 12 + d * 2 ^ 8 + e * 2 ^ 7 + opcode → bits 31 1 word * 4096 + bits 7 1 word * 2048 + bits 25 6 word * 32 + bits 8 4 word * 2 ≡ n
read_b n a b d e middle opcode p z e1 e2 e3 e4 m o word w =
    let parts = parts_b n a b d e p z e1 e2 e3 e4 in
    let a2 : a < 2 = parts.1 in
    let b2 : b < 64 = parts.2 in
    let d2 : d < 16 = parts.3 in
    let e5 : e < 2 = parts.4 in
    let at_a : bits 31 1 word ≡ a = bits_of_parts 31 1 0 a (b * 2 ^ 25 + middle * 2 ^ 12 + d * 2 ^ 8 + e * 2 ^ 7 + opcode) word (omega arith) a2 (omega arith) in
    let at_b : bits 25 6 word ≡ b = bits_of_parts 25 6 a b (middle * 2 ^ 12 + d * 2 ^ 8 + e * 2 ^ 7 + opcode) word (omega arith) b2 (omega arith) in
    let at_d : bits 8 4 word ≡ d = bits_of_parts 8 4 (a * 2 ^ 19 + b * 2 ^ 13 + middle) d (e * 2 ^ 7 + opcode) word (omega arith) d2 (omega arith) in
    let at_e : bits 7 1 word ≡ e = bits_of_parts 7 1 (a * 2 ^ 23 + b * 2 ^ 17 + middle * 2 ^ 4 + d) e opcode word (omega arith) e5 o in
    omega (arith, at_a, at_b, at_d, at_e, parts.0)

pub read_u : (imm low word : ℕ) → imm % 4096 ≡ 0 → imm < 2 ^ 32 → low < 2 ^ 12 → word ≡ bits 12 20 imm * 2 ^ 12 + low → bits 12 20 word * 4096 ≡ imm
unfolding bits
read_u imm low word z p q w = omega arith

parts_j : (n a b d e : ℕ) → n < 2097152 → n % 2 ≡ 0 → a ≡ bits 20 1 n → b ≡ bits 1 10 n → d ≡ bits 11 1 n → e ≡ bits 12 8 n → (a * 1048576 + e * 4096 + d * 2048 + b * 2 ≡ n) × (a < 2) × (b < 1024) × (d < 2) × (e < 256)
unfolding bits
parts_j n a b d e p z e1 e2 e3 e4 = (omega arith, omega arith, omega arith, omega arith, omega arith)

pub read_j : (n a b d e low : ℕ) → n < 2097152 → n % 2 ≡ 0 → a ≡ bits 20 1 n → b ≡ bits 1 10 n → d ≡ bits 11 1 n → e ≡ bits 12 8 n → low < 2 ^ 12 → (word : ℕ) → word ≡ a * 2 ^ 31 + b * 2 ^ 21 + d * 2 ^ 20 + e * 2 ^ 12 + low → bits 31 1 word * 1048576 + bits 12 8 word * 4096 + bits 20 1 word * 2048 + bits 21 10 word * 2 ≡ n
read_j n a b d e low p z e1 e2 e3 e4 q word w =
    let parts = parts_j n a b d e p z e1 e2 e3 e4 in
    let a2 : a < 2 = parts.1 in
    let b2 : b < 1024 = parts.2 in
    let d2 : d < 2 = parts.3 in
    let e5 : e < 256 = parts.4 in
    let at_a : bits 31 1 word ≡ a = bits_of_parts 31 1 0 a (b * 2 ^ 21 + d * 2 ^ 20 + e * 2 ^ 12 + low) word (omega arith) a2 (omega arith) in
    let at_b : bits 21 10 word ≡ b = bits_of_parts 21 10 a b (d * 2 ^ 20 + e * 2 ^ 12 + low) word (omega arith) b2 (omega arith) in
    let at_d : bits 20 1 word ≡ d = bits_of_parts 20 1 (a * 2 ^ 10 + b) d (e * 2 ^ 12 + low) word (omega arith) d2 (omega arith) in
    let at_e : bits 12 8 word ≡ e = bits_of_parts 12 8 (a * 2 ^ 11 + b * 2 + d) e low word (omega arith) e5 q in
    omega (arith, at_a, at_b, at_d, at_e, parts.0)

-- an even number is even modulo these powers of two

pub modulo_even_b : (z : ℤ) → modulo 2 z ≡ 0 → modulo 8192 z % 2 ≡ 0
unfolding modulo
modulo_even_b (pos n) e = omega arith
modulo_even_b (negsuc n) e = omega arith

pub modulo_even_j : (z : ℤ) → modulo 2 z ≡ 0 → modulo 2097152 z % 2 ≡ 0
unfolding modulo
modulo_even_j (pos n) e = omega arith
modulo_even_j (negsuc n) e = omega arith

-- the laws of the immediates

pub back_i : (imm : ℤ) (low : ℕ) → negsuc 2047 ≤ℤ imm → imm ≤ℤ pos 2047 → low < 2 ^ 20 → immediate_i (encode_i imm low) ≡ imm
unfolding immediate_i encode_i
back_i imm low least greatest l =
    ap (signed 2048) (read_i (modulo 4096 imm) low (modulo_below 4096 imm (omega arith)) l) ∙
    signed_modulo 2048 imm least greatest (omega arith)

pub back_s : (imm : ℤ) (middle opcode : ℕ) → negsuc 2047 ≤ℤ imm → imm ≤ℤ pos 2047 → middle < 2 ^ 13 → opcode < 2 ^ 7 → immediate_s (encode_s imm middle opcode) ≡ imm
unfolding immediate_s encode_s
back_s imm middle opcode least greatest m o =
    ap (signed 2048) (read_s (modulo 4096 imm) _ _ middle opcode (modulo_below 4096 imm (omega arith)) refl refl m o _ refl) ∙
    signed_modulo 2048 imm least greatest (omega arith)

pub back_b : (imm : ℤ) (middle opcode : ℕ) → negsuc 4095 ≤ℤ imm → imm ≤ℤ pos 4095 → modulo 2 imm ≡ 0 → middle < 2 ^ 13 → opcode < 2 ^ 7 → immediate_b (encode_b imm middle opcode) ≡ imm
unfolding immediate_b encode_b
back_b imm middle opcode least greatest even m o =
    ap (signed 4096) (read_b (modulo 8192 imm) _ _ _ _ middle opcode (modulo_below 8192 imm (omega arith)) (modulo_even_b imm even) refl refl refl refl m o _ refl) ∙
    signed_modulo 4096 imm least greatest (omega arith)

pub back_u : (imm low : ℕ) → imm % 4096 ≡ 0 → imm < 2 ^ 32 → low < 2 ^ 12 → immediate_u (encode_u imm low) ≡ imm
unfolding immediate_u encode_u
back_u imm low zeros fits l = read_u imm low _ zeros fits l refl

pub back_j : (imm : ℤ) (low : ℕ) → negsuc 1048575 ≤ℤ imm → imm ≤ℤ pos 1048575 → modulo 2 imm ≡ 0 → low < 2 ^ 12 → immediate_j (encode_j imm low) ≡ imm
unfolding immediate_j encode_j
back_j imm low least greatest even l =
    ap (signed 1048576) (read_j (modulo 2097152 imm) _ _ _ _ low (modulo_below 2097152 imm (omega arith)) (modulo_even_j imm even) refl refl refl refl l _ refl) ∙
    signed_modulo 1048576 imm least greatest (omega arith)
