-- That groups of registers, and the elements in them, lie in the registers.
use Rattle.std.proofs.Common.{ℕ, ◌+◌, ◌*◌, ◌/◌, ◌<◌, ◌≤◌, ◌≡◌, ◌⊎◌, inl, inr, arith, ap, sym, ◌∙◌}
use Rattle.std.proofs.Math.Nat.{mul-le-mul_left, mul-div-le, mul-div_cancel_left}
use Rattle.std.proofs.lemmas.Nat.{le-div}
use Rattle.vreg_groups.specs.VectorLength.{IsVlenb}

-- a group ends within the registers, and its elements within the group
pub group_within : (vlenb size first count len : ℕ) → IsVlenb vlenb → (size ≡ 1) ⊎ (size ≡ 2) ⊎ (size ≡ 4) →
    first + count ≤ 32 → len ≡ 32 * vlenb → first * vlenb + size * (count * vlenb / size) ≤ len
group_within vlenb size first count len v s group registers =
    let elements = mul-div-le (count * vlenb) size in
    let all : vlenb * (first + count) ≤ vlenb * 32 = mul-le-mul_left vlenb group in
    omega arith

pub element_within : (vlenb size count i : ℕ) → (size ≡ 1) ⊎ (size ≡ 2) ⊎ (size ≡ 4) → size * i + size ≤ count * vlenb →
    i < count * vlenb / size
element_within vlenb size count i s h =
    let positive : 0 < size = omega arith in
    let elements : (i + 1) * size ≤ count * vlenb = omega arith in
    let within : i + 1 ≤ count * vlenb / size = le-div (i + 1) (count * vlenb) size positive elements in
    omega arith

-- what lies outside a group
pub group_outside : (vlenb size first count k : ℕ) → (size ≡ 1) ⊎ (size ≡ 2) ⊎ (size ≡ 4) →
    (k < first * vlenb) ⊎ ((first + count) * vlenb ≤ k) →
    (k < first * vlenb) ⊎ (first * vlenb + size * (count * vlenb / size) ≤ k)
group_outside vlenb size first count k s (inl below) = inl below
group_outside vlenb size first count k s (inr past) = let elements = mul-div-le (count * vlenb) size in inr (omega arith)

-- a register lies within the registers
pub register_within : (vlenb register len : ℕ) → register < 32 → len ≡ 32 * vlenb → register * vlenb + vlenb ≤ len
register_within vlenb register len r registers =
    let all : vlenb * (register + 1) ≤ vlenb * 32 = mul-le-mul_left vlenb (omega arith) in
    omega arith

pub register_outside : (vlenb register k : ℕ) → (k < register * vlenb) ⊎ ((register + 1) * vlenb ≤ k) →
    (k < register * vlenb) ⊎ (register * vlenb + 1 * vlenb ≤ k)
register_outside vlenb register k (inl below) = inl below
register_outside vlenb register k (inr past) = inr (omega arith)

-- a register has a whole number of elements, and so has a group
per_register : (vlenb size : ℕ) → IsVlenb vlenb → (size ≡ 1) ⊎ (size ≡ 2) ⊎ (size ≡ 4) → (k : ℕ) × (vlenb ≡ size * k)
per_register vlenb size (inl v) (inl s) = (16, omega arith)
per_register vlenb size (inl v) (inr (inl s)) = (8, omega arith)
per_register vlenb size (inl v) (inr (inr s)) = (4, omega arith)
per_register vlenb size (inr (inl v)) (inl s) = (32, omega arith)
per_register vlenb size (inr (inl v)) (inr (inl s)) = (16, omega arith)
per_register vlenb size (inr (inl v)) (inr (inr s)) = (8, omega arith)
per_register vlenb size (inr (inr v)) (inl s) = (64, omega arith)
per_register vlenb size (inr (inr v)) (inr (inl s)) = (32, omega arith)
per_register vlenb size (inr (inr v)) (inr (inr s)) = (16, omega arith)

pub whole_elements : (vlenb size count : ℕ) → IsVlenb vlenb → (size ≡ 1) ⊎ (size ≡ 2) ⊎ (size ≡ 4) →
    size * (count * vlenb / size) ≡ count * vlenb
whole_elements vlenb size count v s =
    let k = (per_register vlenb size v s).0 in
    let e : vlenb ≡ size * k = (per_register vlenb size v s).1 in
    let positive : 0 < size = omega arith in
    let all : count * vlenb ≡ size * (count * k) = ap (λ n. count * n) e ∙ omega arith in
    let elements : count * vlenb / size ≡ count * k =
    ap (λ n. n / size) all ∙ mul-div_cancel_left (count * k) positive in
    ap (λ n. size * n) elements ∙ sym all
