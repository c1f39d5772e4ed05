-- How many elements there are, and that there is room for them.
use Rattle.std.proofs.Common.{◌≡◌, ◌⊎◌, ℕ, ◌*◌, ◌≤◌, List, length, arith, inl, inr}
use Rattle.std.proofs.Math.Nat.{le_of_mul-le-mul_left}
use Rattle.std.proofs.lemmas.List.FromFn.{length-map-range_with_len}
use Rattle.vreg_groups.specs.Elements.{elements_of}
use Rattle.vreg_groups.specs.Group.{Span, body_of}
use Rattle.vreg_groups.specs.VectorLength.{IsVlenb}

-- a mask register has at most 512 bits
pub few : (vlenb vl : ℕ) → IsVlenb vlenb → vl ≤ 8 * vlenb → vl ≤ 512
few vlenb vl is h = omega (arith, is, h)

-- n elements are enough for 512 bytes
pub enough : (size n vl : ℕ) → (size ≡ 1) ⊎ (size ≡ 2) ⊎ (size ≡ 4) → 512 ≤ size * n → size * vl ≤ 512 → vl ≤ n
enough size n vl sizes room h =
    le_of_mul-le-mul_left {m = vl} {n = n} {k = size} (omega (arith, room, h))
    (elim sizes [ inl one ↦ omega (arith, one) | inr more ↦ elim more [ inl two ↦ omega (arith, two) | inr four ↦ omega (arith, four) ] ])

-- a body has vl elements
pub body_length : (vlenb : ℕ) (group : Span) (file : List ℕ) → length (body_of vlenb group file) ≡ group.vl
unfolding body_of elements_of
body_length vlenb group file = length-map-range_with_len _ 0 group.vl
