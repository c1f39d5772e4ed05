-- The address of an access lies in its range.
use Rattle.std.specs.Prelude.{ℕ, ◌<◌, ℤ}
use Rattle.std.specs.Int.{w32}
use Rattle.std.specs.Int.RustNames.{FitsSigned}
use Rattle.abs_transfer.specs.Words.{Vconfig, Hart, unsigned}
use Rattle.scalar_core.specs.Step.{address_of}
use Rattle.abs_domain.specs.Numbers.{NumbersView}
use Rattle.abs_domain.specs.Described.{LiesIn}
use Rattle.abs_domain.specs.Holds.{Holds}
use Rattle.abs_transfer.specs.Scalar.{address_range}

-- Where all that is known is true of a hart, the address of a load or store lies in its range.
abbrev pub AddressesLie : Type 0
AddressesLie =
    (s : NumbersView) (v : ℕ → ℕ) (h : Hart) (config : Vconfig) (rs1 : ℕ) (offset : ℤ)
    → Holds s v h config → rs1 < 32 → FitsSigned w32 offset
    → LiesIn (address_range rs1 (unsigned offset) s) (address_of rs1 offset h)
