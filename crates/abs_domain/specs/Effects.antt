-- What the instructions of RV32I and M make of the numbers of their operands, as far as these are
-- known. An effect holds a form or a range, and its rule says what is known of the result.
use Rattle.std.specs.Prelude.{ℕ, ◌+◌, ◌-◌, ◌*◌, ◌/◌, ◌%◌, ◌^◌, ◌==◌, nat_lt, nat_le, ◌&&◌, min, if◌then◌else◌, Option, Some, None}
use Rattle.abs_domain.specs.Words.{Range, Linear, number_form, scaled, sum_of, RegisterOp, ImmediateOp, ShiftOp, LoadKind, CsrName}
use Rattle.rv_decode.specs.declared.instructions.RegisterOp.TheVariants.{Add, Sub, Sll, Slt, Sltu, Xor, Srl, Sra, Or, And, Mul, Mulh, Mulhsu, Mulhu, Div, Divu, Rem, Remu}
use Rattle.rv_decode.specs.declared.instructions.ImmediateOp.TheVariants.{Addi, Slti, Sltiu, Xori, Ori, Andi}
use Rattle.rv_decode.specs.declared.instructions.ShiftOp.TheVariants.{Slli, Srli, Srai}
use Rattle.rv_decode.specs.declared.instructions.LoadKind.TheVariants as load
use Rattle.rv_decode.specs.declared.instructions.CsrName.TheVariants as csr
use Rattle.abs_domain.specs.declared.values.Effect.{Effect}
use Rattle.abs_domain.specs.declared.values.Effect.TheVariants.{Computed, Fresh, Copied}
use Rattle.abs_domain.specs.Values.{ValueView, full_range, just, known_of, up_to}

-- ---- interval arithmetic, where it stays within 32 bits

-- the range between two ends that both have this many bits
abbrev pub fitting : ℕ → ℕ → ℕ → Option Range
fitting bits lo hi =
    if nat_lt lo (2 ^ bits) && nat_lt hi (2 ^ bits) then Some record { lo = lo; hi = hi } else None

abbrev pub sum_range : Range → Range → Option Range
sum_range a b = fitting 32 (a.lo + b.lo) (a.hi + b.hi)

abbrev pub difference_range : Range → Range → Option Range
difference_range a b =
    if nat_le b.hi a.lo then Some record { lo = a.lo - b.hi; hi = a.hi - b.lo } else None

-- the multiples of a range's numbers that have this many bits
abbrev pub multiple_range : ℕ → ℕ → Range → Option Range
multiple_range bits k a = fitting bits (k * a.lo) (k * a.hi)

-- a range moved by a signed number of 32 bits, which is given by its bits
unfoldable pub offset_range : ℕ → Range → Option Range
offset_range n a =
    if nat_lt n (2 ^ 31) then sum_range a (just n) else difference_range a (just (2 ^ 32 - n))

-- ---- effects by their forms

-- a number that stands in the instruction
unfoldable pub constant_effect : ℕ → Effect
constant_effect n = Computed (number_form n) (Some (just n))

unfoldable pub sum_effect : ValueView → ValueView → Effect
sum_effect a b = Computed (sum_of a.form b.form) (sum_range a.range b.range)

-- the form a - b is a + (2^32 - 1) * b
unfoldable pub difference_effect : ValueView → ValueView → Effect
difference_effect a b =
    Computed (sum_of a.form (scaled 4294967295 b.form)) (difference_range a.range b.range)

-- a number and a signed one, which is given by its bits
unfoldable pub offset_form : Linear → ℕ → Linear
offset_form f n = sum_of f (number_form n)

unfoldable pub offset_effect : ValueView → ℕ → Effect
offset_effect a n = Computed (offset_form a.form n) (offset_range n a.range)

unfoldable pub product_effect : ℕ → ValueView → Effect
product_effect k a = Computed (scaled k a.form) (multiple_range 32 k a.range)

-- a product where one of its factors is known; the first factor given here is tried first
unfoldable pub product_by : ValueView → Option ℕ → ValueView → Option ℕ → Effect
product_by a (Some k) b j = product_effect k a
product_by a None b (Some j) = product_effect j b
product_by a None b None = Fresh full_range

-- a shift to the left by the low five bits of an amount, where it is known
unfoldable pub left_shift_by : ValueView → Option ℕ → Effect
left_shift_by a None = Fresh full_range
left_shift_by a (Some n) = product_effect (2 ^ (n % 32)) a

-- ---- effects by their ranges alone

-- a result that is 0 or 1
abbrev pub bit_effect : Effect
bit_effect = Fresh (up_to 1)

abbrev pub unknown_effect : Effect
unknown_effect = Fresh full_range

-- a shift to the right by the low five bits of an amount, where it is known
unfoldable pub right_shift_range : Range → Option ℕ → Range
right_shift_range a None = full_range
right_shift_range a (Some n) = record { lo = a.lo / 2 ^ (n % 32); hi = a.hi / 2 ^ (n % 32) }

-- division by a number that is known and not 0
unfoldable pub quotient_range : Range → Option ℕ → Range
quotient_range a None = full_range
quotient_range a (Some c) = if c == 0 then full_range else record { lo = a.lo / c; hi = a.hi / c }

unfoldable pub remainder_range : Range → Option ℕ → Range
remainder_range a None = full_range
remainder_range a (Some c) = if c == 0 then full_range else up_to (min a.hi (c - 1))

-- ---- the instructions

-- an instruction on two registers, with a of rs1 and b of rs2
unfoldable pub register_effect : RegisterOp → ValueView → ValueView → Effect
register_effect Add a b = sum_effect a b
register_effect Sub a b = difference_effect a b
register_effect Sll a b = left_shift_by a (known_of b.range)
register_effect Slt a b = bit_effect
register_effect Sltu a b = bit_effect
register_effect Xor a b = unknown_effect
register_effect Srl a b = Fresh (right_shift_range a.range (known_of b.range))
register_effect Sra a b = unknown_effect
register_effect Or a b = unknown_effect
register_effect And a b = Fresh (up_to (min a.range.hi b.range.hi))
register_effect Mul a b = product_by a (known_of b.range) b (known_of a.range)
register_effect Mulh a b = unknown_effect
register_effect Mulhsu a b = unknown_effect
register_effect Mulhu a b = unknown_effect
register_effect Div a b = unknown_effect
register_effect Divu a b = Fresh (quotient_range a.range (known_of b.range))
register_effect Rem a b = unknown_effect
register_effect Remu a b = Fresh (remainder_range a.range (known_of b.range))

-- an instruction on a register and an immediate, which is given by its 32 bits
unfoldable pub immediate_effect : ImmediateOp → ValueView → ℕ → Effect
immediate_effect Addi a n = offset_effect a n
immediate_effect Slti a n = bit_effect
immediate_effect Sltiu a n = bit_effect
immediate_effect Xori a n = unknown_effect
immediate_effect Ori a n = unknown_effect
immediate_effect Andi a n = Fresh (up_to (min a.range.hi n))

-- a shift by an amount that stands in the instruction
unfoldable pub shift_effect : ShiftOp → ValueView → ℕ → Effect
shift_effect Slli a amount = left_shift_by a (Some amount)
shift_effect Srli a amount = Fresh (right_shift_range a.range (Some amount))
shift_effect Srai a amount = unknown_effect

-- what a load gives, whatever memory holds
unfoldable pub load_effect : LoadKind → Effect
load_effect load.Byte = unknown_effect
load_effect load.Half = unknown_effect
load_effect load.Word = unknown_effect
load_effect load.ByteUnsigned = Fresh (up_to 255)
load_effect load.HalfUnsigned = Fresh (up_to 65535)

-- what a read of a CSR gives, with what is known of vl, and vlenb bytes in a vector register
unfoldable pub csr_effect : CsrName → ℕ → ValueView → Effect
csr_effect csr.Vxsat vlenb vl = Fresh (up_to 1)
csr_effect csr.Vxrm vlenb vl = Fresh (up_to 3)
csr_effect csr.Vcsr vlenb vl = Fresh (up_to 7)
csr_effect csr.Vl vlenb vl = Copied vl.form vl.range
csr_effect csr.Vtype vlenb vl = unknown_effect
csr_effect csr.Vlenb vlenb vl = constant_effect vlenb
