-- By cases on the operation: the two definitions compute to one, but for the upper halves of products.
use Rattle.std.proofs.Common.{◌≡◌, ◌<◌, ◌≤◌, ◌-◌, ◌*◌, ◌/◌, ◌%◌, ◌^◌, ℕ, ℤ, pos, negsuc, arith, refl, sym, ap, ◌∙◌, lit<}
use Rattle.std.specs.Prelude.{◌*ℤ◌, unsigned_abs}
use Rattle.std.specs.Int.{w32, w64, cast_signed, cast_unsigned, int_wrap}
use Rattle.std.specs.Int.RustNames.{FitsSigned}
use Rattle.std.proofs.lemmas.Int.{fits_signed_mul, int_wrap_fits, of_z-to_z, to_z-of_z, wrapping_mul_onto}
use Rattle.std.proofs.Math.Nat.{mod-eq_of_lt, mod-lt}
use Rattle.std.proofs.lemmas.Nat.{mul-lt}
use Rattle.std.proofs.Math.Facts.{sfits_to_z}
use Rattle.rv_decode.specs.declared.instructions.IntOp.TheVariants.{Add, Sub, Rsub, Minu, Min, Maxu, Max, And, Or, Xor, Sll, Srl, Sra, Mul, Mulhu, Mulhsu, Mulh, Divu, Div, Remu, Rem}
use Rattle.lane_int.specs.Integer.{element, high_half}
use Rattle.scalar_core.specs.Arithmetic.{register_result, signed, upper_half}
use Rattle.vector_core.specs.Laws.{ElementsAreRegisterResults}
use Rattle.vector_core.proofs.laws.elements_are_register_results.Goals as goal

-- the upper 32 of 64 bits, of a signed number and of its two's complement
upper : (z : ℤ) → FitsSigned w64 z → cast_unsigned w64 z / 2 ^ 32 ≡ upper_half z
upper (pos n) f = refl
upper (negsuc n) f = let below : n < 2 ^ 63 = omega (arith, f.sfits) in omega arith

-- two factors as numbers of 64 bits have their product's two's complement, where it fits
product : (x y : ℤ) → FitsSigned w64 x → FitsSigned w64 y → FitsSigned w64 (x *ℤ y) → cast_unsigned w64 x < 2 ^ 64 → (cast_unsigned w64 x * cast_unsigned w64 y) % 2 ^ 64 ≡ cast_unsigned w64 (x *ℤ y)
product x y f g h below =
    let n : ℕ = cast_unsigned w64 x * cast_unsigned w64 y in
    let wrapped = wrapping_mul_onto w64 (cast_unsigned w64 x) y below g in
    let read : cast_signed w64 (cast_unsigned w64 x) ≡ x = to_z-of_z w64 x f in
    let fits = int_wrap_fits w64 (x *ℤ y) h in
    let small : n % 2 ^ 64 < 2 ^ 64 = mod-lt n (lit< tt) in
    sym (of_z-to_z w64 (n % 2 ^ 64) small) ∙
    ap (cast_unsigned w64) (wrapped ∙ ap (λ u. int_wrap w64 (u *ℤ y)) read ∙ fits)

-- a register's number, signed or not, as one of 64 bits

fits_64 : (x : ℤ) → FitsSigned w32 x → FitsSigned w64 x
fits_64 x f = record { sfits = omega (arith, f.sfits) }

below_64 : (x : ℤ) → FitsSigned w64 x → cast_unsigned w64 x < 2 ^ 64
below_64 (pos n) f = omega (arith, f.sfits)
below_64 (negsuc n) f = omega (arith, f.sfits)

read_fits : (a : ℕ) → a < 2 ^ 32 → FitsSigned w32 (signed a)
read_fits a p = sfits_to_z (record { fits = p })

pos_fits : (b : ℕ) → b < 2 ^ 32 → FitsSigned w64 (pos b)
pos_fits b q = record { sfits = omega arith }

abs_of_signed : (x : ℤ) → FitsSigned w32 x → unsigned_abs x ≤ 2 ^ 31
abs_of_signed (pos n) f = omega (arith, f.sfits)
abs_of_signed (negsuc n) f = omega (arith, f.sfits)

-- the upper half of a product of two numbers of 64 bits
half : (x y : ℤ) → FitsSigned w32 x → FitsSigned w64 y → unsigned_abs y ≤ 2 ^ 32 - 1 → high_half w32 (cast_unsigned w64 x * cast_unsigned w64 y) ≡ upper_half (x *ℤ y)
half x y f g y_max =
    let whole : FitsSigned w64 (x *ℤ y) = fits_signed_mul w64 x y (2 ^ 31) (2 ^ 32 - 1) (abs_of_signed x f) y_max (lit< tt) in
    ap (λ m. m / 2 ^ 32) (product x y (fits_64 x f) g whole (below_64 x (fits_64 x f))) ∙ upper (x *ℤ y) whole

registers_agree : ElementsAreRegisterResults
unfolding element register_result
registers_agree Add a b p q = refl
registers_agree Sub a b p q = refl
registers_agree Rsub a b p q = tt
registers_agree Minu a b p q = tt
registers_agree Min a b p q = tt
registers_agree Maxu a b p q = tt
registers_agree Max a b p q = tt
registers_agree And a b p q = refl
registers_agree Or a b p q = refl
registers_agree Xor a b p q = refl
registers_agree Sll a b p q = refl
registers_agree Srl a b p q = refl
registers_agree Sra a b p q = refl
registers_agree Mul a b p q = refl
registers_agree Mulhu a b p q = let small : a * b < 2 ^ 64 = mul-lt a b (2 ^ 32) (2 ^ 32) p q in ap (λ m. m / 2 ^ 32) (mod-eq_of_lt small)
registers_agree Mulhsu a b p q = half (signed a) (pos b) (read_fits a p) (pos_fits b q) (omega arith)
registers_agree Mulh a b p q =
    let bound = abs_of_signed (signed b) (read_fits b q) in
    half (signed a) (signed b) (read_fits a p) (fits_64 (signed b) (read_fits b q)) (omega (arith, bound))
registers_agree Divu a b p q = refl
registers_agree Div a b p q = refl
registers_agree Remu a b p q = refl
registers_agree Rem a b p q = refl

pub returns : goal.returns
returns c = registers_agree
