-- The upper half of a product of 64 bits fits 32 bits.
use Rattle.std.proofs.Common.{arith}
use Rattle.std.specs.Prelude.{ℤ, pos, negsuc}
use Rattle.std.specs.Int.{w32, w64, int_shr}
use Rattle.std.specs.Int.RustNames.{FitsSigned}

pub int_shr_fits_64 : (z : ℤ) → FitsSigned w64 z → FitsSigned w64 (int_shr z 32)
int_shr_fits_64 (pos n) f = record { sfits = omega arith }
int_shr_fits_64 (negsuc n) f = record { sfits = omega arith }

pub int_shr_fits_32 : (z : ℤ) → FitsSigned w64 z → FitsSigned w32 (int_shr z 32)
int_shr_fits_32 (pos n) f = record { sfits = omega arith }
int_shr_fits_32 (negsuc n) f = record { sfits = omega arith }
