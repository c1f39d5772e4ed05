-- What the instructions of RV32I and M compute from the numbers of their operands.
use Rattle.std.specs.Prelude.{ℕ, ◌+◌, ◌-◌, ◌*◌, ◌/◌, ◌%◌, ◌^◌, ◌==◌, nat_lt, Bool, not, if◌then◌else◌, bit_and, bit_or, bit_xor, ℤ, pos, ◌*ℤ◌, int_lt, int_div, int_rem}
use Rattle.std.specs.Int.{w32, cast_signed, cast_unsigned, int_shr, from_bool}
use Rattle.scalar_core.specs.Words.{Condition, ImmediateOp, ShiftOp, RegisterOp, Add, Sub, Sll, Slt, Sltu, Xor, Srl, Sra, Or}
use Rattle.scalar_core.specs.Words.{And, Mul, Mulh, Mulhsu, Mulhu, Div, Divu, Rem, Remu, Addi, Slti, Sltiu, Xori, Ori, Andi}
use Rattle.scalar_core.specs.Words.{Slli, Srli, Srai}

-- a register's 32 bits as a signed number, and a signed number's 32 bits
abbrev pub signed : ℕ → ℤ
signed a = cast_signed w32 a

abbrev pub unsigned : ℤ → ℕ
unsigned z = cast_unsigned w32 z

-- the upper 32 bits of a product of 64 bits
abbrev pub upper_half : ℤ → ℕ
upper_half product = unsigned (int_shr product 32)

-- 32 bits that are all ones
abbrev pub all_ones : ℕ
all_ones = 2 ^ 32 - 1

-- signed division rounds towards zero; by zero it gives all ones, and the most negative number by
-- -1 gives itself
abbrev pub quotient : ℕ → ℕ → ℕ
quotient a b = if b == 0 then all_ones else unsigned (int_div (signed a) (signed b))

-- its remainder has the dividend's sign; by zero it is the dividend
abbrev pub remainder : ℕ → ℕ → ℕ
remainder a b = if b == 0 then a else unsigned (int_rem (signed a) (signed b))

-- unsigned division, and its remainder
abbrev pub unsigned_quotient : ℕ → ℕ → ℕ
unsigned_quotient a b = if b == 0 then all_ones else a / b

abbrev pub unsigned_remainder : ℕ → ℕ → ℕ
unsigned_remainder a b = if b == 0 then a else a % b

-- the result of an instruction on two registers, a of rs1 and b of rs2
unfoldable pub register_result : RegisterOp → ℕ → ℕ → ℕ
register_result Add a b = (a + b) % 2 ^ 32
register_result Sub a b = (a + (2 ^ 32 - b)) % 2 ^ 32
register_result Sll a b = (a * 2 ^ (b % 32)) % 2 ^ 32
register_result Slt a b = from_bool (int_lt (signed a) (signed b))
register_result Sltu a b = from_bool (nat_lt a b)
register_result Xor a b = bit_xor a b
register_result Srl a b = a / 2 ^ (b % 32)
register_result Sra a b = unsigned (int_shr (signed a) (b % 32))
register_result Or a b = bit_or a b
register_result And a b = bit_and a b
register_result Mul a b = (a * b) % 2 ^ 32
register_result Mulh a b = upper_half (signed a *ℤ signed b)
register_result Mulhsu a b = upper_half (signed a *ℤ pos b)
register_result Mulhu a b = upper_half (pos a *ℤ pos b)
register_result Div a b = quotient a b
register_result Divu a b = unsigned_quotient a b
register_result Rem a b = remainder a b
register_result Remu a b = unsigned_remainder a b

-- the same with a sign-extended immediate in place of rs2
unfoldable pub immediate_result : ImmediateOp → ℕ → ℤ → ℕ
immediate_result Addi a imm = register_result Add a (unsigned imm)
immediate_result Slti a imm = register_result Slt a (unsigned imm)
immediate_result Sltiu a imm = register_result Sltu a (unsigned imm)
immediate_result Xori a imm = register_result Xor a (unsigned imm)
immediate_result Ori a imm = register_result Or a (unsigned imm)
immediate_result Andi a imm = register_result And a (unsigned imm)

-- a shift by an amount that stands in the instruction
unfoldable pub shift_result : ShiftOp → ℕ → ℕ → ℕ
shift_result Slli a amount = register_result Sll a amount
shift_result Srli a amount = register_result Srl a amount
shift_result Srai a amount = register_result Sra a amount

-- whether a branch on a of rs1 and b of rs2 is taken
unfoldable pub is_taken : Condition → ℕ → ℕ → Bool
is_taken Condition.Eq a b = a == b
is_taken Condition.Ne a b = not (a == b)
is_taken Condition.Lt a b = int_lt (signed a) (signed b)
is_taken Condition.Ge a b = not (int_lt (signed a) (signed b))
is_taken Condition.Ltu a b = nat_lt a b
is_taken Condition.Geu a b = not (nat_lt a b)
