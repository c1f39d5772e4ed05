use Rattle.std.proofs.Common.{◌≡◌, ◌∙◌, refl, ℤ, pos, negsuc, ◌*ℤ◌, ◌≤◌, w64, w32, of_z, to_z, FitsSigned, unsigned_abs, arith}
use Rattle.std.proofs.lemmas.Int.{to_z-of_z, unsigned_abs-mul, fits_signed_from_abs}
use Rattle.std.proofs.lemmas.Nat.{mul-le}
use Rattle.lane_fixed.proofs.elements.product.Goals as goal

abs_at_most : (a : ℤ) → FitsSigned w32 a → unsigned_abs a ≤ 2147483648
abs_at_most (pos n) p = omega (arith, p.sfits)
abs_at_most (negsuc n) p = omega (arith, p.sfits)

-- a product of two numbers of 32 bits
bounded : (a b : ℤ) → FitsSigned w32 a → FitsSigned w32 b → unsigned_abs (a *ℤ b) ≤ 4611686018427387904
bounded a b p q =
    rw (unsigned_abs-mul a b) (mul-le (unsigned_abs a) (unsigned_abs b) 2147483648 2147483648 (abs_at_most a p) (abs_at_most b q))

fits : (a b : ℤ) → FitsSigned w32 a → FitsSigned w32 b → FitsSigned w64 (a *ℤ b)
fits a b p q = let small = bounded a b p q in fits_signed_from_abs w64 (a *ℤ b) (omega (arith, small))

wide : (a : ℤ) → FitsSigned w32 a → FitsSigned w64 a
wide a p = let small = abs_at_most a p in fits_signed_from_abs w64 a (omega (arith, small))

is_product : (a b x y : ℤ) → FitsSigned w32 a → FitsSigned w32 b → x ≡ to_z w32 (of_z w32 a) → y ≡ to_z w32 (of_z w32 b) → to_z w64 (of_z w64 (to_z w64 (of_z w64 x) *ℤ to_z w64 (of_z w64 y))) ≡ a *ℤ b
is_product a b x y p q e f =
    let is_x : x ≡ a = e ∙ to_z-of_z w32 a p in
    let is_y : y ≡ b = f ∙ to_z-of_z w32 b q in
    rw (is_x, is_y, to_z-of_z w64 a (wide a p), to_z-of_z w64 b (wide b q), to_z-of_z w64 (a *ℤ b) (fits a b p q)) refl

pub returns-clause-value : goal.returns-clause-value
returns-clause-value c =
    is_product c.args.a c.args.b c.from.result c.from-2.result c.ranges.a c.ranges.b c.from.ensures c.from-2.ensures

pub returns-clause-room : goal.returns-clause-room
returns-clause-room c =
    rw (is_product c.args.a c.args.b c.from.result c.from-2.result c.ranges.a c.ranges.b c.from.ensures c.from-2.ensures)
    (bounded c.args.a c.args.b c.ranges.a c.ranges.b)
