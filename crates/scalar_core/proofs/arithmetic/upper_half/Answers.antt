-- The product and its upper half fit the types that they are computed in.
use Rattle.std.proofs.Common.{◌≤◌, ◌-◌, ◌^◌, arith, lit<}
use Rattle.std.specs.Prelude.{◌*ℤ◌, unsigned_abs}
use Rattle.std.specs.Int.{w32, w64, int_shr}
use Rattle.std.specs.Int.RustNames.{FitsSigned}
use Rattle.std.proofs.lemmas.Int.{fits_signed_mul, to_z-of_z}
use Rattle.scalar_core.proofs.UpperHalf.{int_shr_fits_32, int_shr_fits_64}
use Rattle.scalar_core.proofs.arithmetic.upper_half.Goals as goal

pub returns : goal.returns
returns c =
    let a = c.args.a in
    let b = c.args.b in
    let fits_a : FitsSigned w64 a = c.ranges.a in
    let fits_b : FitsSigned w64 b = c.ranges.b in
    let b_max : unsigned_abs b ≤ 2 ^ 32 - 1 = omega (arith, c.requires.b_fits) in
    let fits_product : FitsSigned w64 (a *ℤ b) = fits_signed_mul w64 a b (2 ^ 31) (2 ^ 32 - 1) c.requires.a_fits b_max (lit< tt) in
    let fits_shifted : FitsSigned w64 (int_shr (a *ℤ b) 32) = int_shr_fits_64 (a *ℤ b) fits_product in
    let fits_upper : FitsSigned w32 (int_shr (a *ℤ b) 32) = int_shr_fits_32 (a *ℤ b) fits_product in
    let h = simp to_z-of_z at c.cast_unsigned.ensures in
    h
