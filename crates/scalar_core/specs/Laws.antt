-- Laws of the definitions.
use Rattle.std.specs.Prelude.{ℕ, ◌≡◌, ◌<◌, ◌+◌, ◌-◌, ◌*◌, ◌^◌, ℤ, pos, ◌≤ℤ◌, ◌+ℤ◌, ◌*ℤ◌, unsigned_abs, int_div, Some, IfOk}
use Rattle.std.specs.Int.{w32}
use Rattle.std.specs.Int.RustNames.{FitsSigned}
use Rattle.scalar_core.specs.Words.{Insn, ScalarInsn, Lui, Auipc, Jal, Jalr, Branch, Load, Store, Immediate, ShiftImmediate}
use Rattle.scalar_core.specs.Words.{Register, Fence, Ecall, Div, Divu, Rem, Remu, Memory, IsAccessSize, load_of, Vconfig}
use Rattle.scalar_core.specs.Arithmetic.{register_result, signed}
use Rattle.scalar_core.specs.Hart.{Hart, IsHart}
use Rattle.scalar_core.specs.Step.{scalar_step}

-- an immediate that reaches a register unchanged fits 32 bits, as that of each instruction
-- of the code does
abbrev pub HasFittingNumber : ScalarInsn → Type 0
HasFittingNumber (Lui rd imm) = imm < 2 ^ 32
HasFittingNumber (Auipc rd imm) = Unit {0}
HasFittingNumber (Jal rd offset) = Unit {0}
HasFittingNumber (Jalr rd rs1 offset) = Unit {0}
HasFittingNumber (Branch condition rs1 rs2 offset) = Unit {0}
HasFittingNumber (Load kind rd rs1 offset) = Unit {0}
HasFittingNumber (Store size rs1 rs2 offset) = Unit {0}
HasFittingNumber (Immediate op rd rs1 imm) = FitsSigned w32 imm
HasFittingNumber (ShiftImmediate op rd rs1 amount) = Unit {0}
HasFittingNumber (Register op rd rs1 rs2) = Unit {0}
HasFittingNumber Fence = Unit {0}
HasFittingNumber Ecall = Unit {0}

abbrev pub HasFittingImmediate : Insn → Type 0
HasFittingImmediate (Insn.Scalar insn) = HasFittingNumber insn
HasFittingImmediate (Insn.Csr insn) = Unit {0}
HasFittingImmediate (Insn.VSet insn) = Unit {0}
HasFittingImmediate (Insn.VArith insn) = Unit {0}
HasFittingImmediate (Insn.VMask insn) = Unit {0}
HasFittingImmediate (Insn.VPerm insn) = Unit {0}
HasFittingImmediate (Insn.VReduce insn) = Unit {0}
HasFittingImmediate (Insn.VMem insn) = Unit {0}
HasFittingImmediate (Insn.VMove insn) = Unit {0}

-- what a load reads fits 32 bits
abbrev pub ReadsFit : Memory → Type 0
ReadsFit m =
    (address n value : ℕ) → IsAccessSize n → load_of address n m ≡ Some value → value < 2 ^ 32

-- a step leads from a hart's state to a hart's state
abbrev pub StepsKeepHarts : Type 0
StepsKeepHarts =
    (vlenb : ℕ) (insn : Insn) (config : Vconfig) (h : Hart) (m : Memory)
    → vlenb < 2 ^ 32 → config.vl < 2 ^ 32
    → config.vtype < 2 ^ 32 → HasFittingImmediate insn → ReadsFit m → IsHart h
    → IfOk (scalar_step vlenb insn config h m) (λ next. IsHart next.0)

-- a remainder is smaller than the divisor, whatever their signs, and it has the
-- dividend's sign or is 0
abbrev pub IsRemainder : ℤ → ℤ → ℤ → Type 0
IsRemainder dividend divisor rest =
    (unsigned_abs rest < unsigned_abs divisor)
    × (pos 0 ≤ℤ dividend → pos 0 ≤ℤ rest)
    × (dividend ≤ℤ pos 0 → rest ≤ℤ pos 0)

-- Division by the table of the M extension: by zero the quotient is all ones and the remainder the
-- dividend; the most negative number by -1 gives itself and 0; elsewhere divisor times quotient and
-- remainder are the dividend, and the remainder is a remainder of it.
abbrev pub DividesSigned : Type 0
DividesSigned =
    (a b : ℕ) → a < 2 ^ 32 → b < 2 ^ 32 →
    (b ≡ 0 → (register_result Div a b ≡ 2 ^ 32 - 1) × (register_result Rem a b ≡ a))
    × (a ≡ 2 ^ 31 → b ≡ 2 ^ 32 - 1
    → (register_result Div a b ≡ 2 ^ 31) × (register_result Rem a b ≡ 0))
    × (0 < b → FitsSigned w32 (int_div (signed a) (signed b)) →
    (signed (register_result Div a b) *ℤ signed b) +ℤ signed (register_result Rem a b) ≡ signed a)
    × (0 < b → IsRemainder (signed a) (signed b) (signed (register_result Rem a b)))

-- the same for unsigned numbers, where nothing overflows
abbrev pub DividesUnsigned : Type 0
DividesUnsigned =
    (a b : ℕ) → a < 2 ^ 32 → b < 2 ^ 32 →
    (b ≡ 0 → (register_result Divu a b ≡ 2 ^ 32 - 1) × (register_result Remu a b ≡ a))
    × (0 < b → (b * register_result Divu a b + register_result Remu a b ≡ a)
    × (register_result Remu a b < b))
