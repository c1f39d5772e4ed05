-- Where each format puts the bits of its immediate: the way back from `immediate_i` and its kin.
use Rattle.std.specs.Prelude.{◌≡◌, ℕ, ◌+◌, ◌-◌, ◌*◌, ◌%◌, ◌^◌, ◌<◌, ℤ, pos, negsuc, ◌≤ℤ◌}
use Rattle.rv_decode.specs.Bits.{bits}
use Rattle.rv_decode.specs.Words.{Condition, ImmediateOp, LoadKind, RegisterOp, ScalarInsn, ShiftOp, Width, Lui, Auipc, Jal, Jalr, Branch}
use Rattle.rv_decode.specs.Words.{Load, Store, Immediate, ShiftImmediate, Register, Fence, Ecall, Eq, Ne, Lt, Ge, Ltu, Geu, Byte, Half}
use Rattle.rv_decode.specs.Words.{Word, ByteUnsigned, HalfUnsigned, W8, W16, W32, Addi, Slti, Sltiu, Xori, Ori, Andi, Slli, Srli, Srai, Add}
use Rattle.rv_decode.specs.Words.{Sub, Sll, Slt, Sltu, Xor, Srl, Sra, Or, And, Mul, Mulh, Mulhsu, Mulhu, Div, Divu, Rem, Remu}

-- the number below `m` that a whole number is modulo `m`
unfoldable pub modulo : ℕ → ℤ → ℕ
modulo m (pos n) = n % m
modulo m (negsuc n) = m - 1 - n % m

-- A word of each format from its immediate and its other fields, as numbers: those below the
-- immediate, or, in S and B, those between its two parts (f3, rs1, rs2) and the opcode.

unfoldable pub encode_i : ℤ → ℕ → ℕ
encode_i imm low = modulo 4096 imm * 2 ^ 20 + low

unfoldable pub encode_s : ℤ → ℕ → ℕ → ℕ
encode_s imm middle opcode =
    let n = modulo 4096 imm in bits 5 7 n * 2 ^ 25 + middle * 2 ^ 12 + bits 0 5 n * 2 ^ 7 + opcode

unfoldable pub encode_b : ℤ → ℕ → ℕ → ℕ
encode_b imm middle opcode =
    let n = modulo 8192 imm in
    bits 12 1 n * 2 ^ 31 + bits 5 6 n * 2 ^ 25 + middle * 2 ^ 12 + bits 1 4 n * 2 ^ 8
    + bits 11 1 n * 2 ^ 7 + opcode

unfoldable pub encode_u : ℕ → ℕ → ℕ
encode_u imm low = bits 12 20 imm * 2 ^ 12 + low

unfoldable pub encode_j : ℤ → ℕ → ℕ
encode_j imm low =
    let n = modulo 2097152 imm in
    bits 20 1 n * 2 ^ 31 + bits 1 10 n * 2 ^ 21 + bits 11 1 n * 2 ^ 20 + bits 12 8 n * 2 ^ 12 + low

-- the word of a scalar instruction, by the formats R, I, S, B, U, J

-- rd, f3 and rs1 above an opcode: bits 19:0
unfoldable pub low_fields : ℕ → ℕ → ℕ → ℕ → ℕ
low_fields opcode rd f3 rs1 = rs1 * 2 ^ 15 + f3 * 2 ^ 12 + rd * 2 ^ 7 + opcode

-- rs2, rs1 and f3: bits 24:12, as a number
unfoldable pub middle_fields : ℕ → ℕ → ℕ → ℕ
middle_fields f3 rs1 rs2 = rs2 * 2 ^ 8 + rs1 * 2 ^ 3 + f3

unfoldable pub encode_r : ℕ → ℕ → ℕ → ℕ → ℕ → ℕ → ℕ
encode_r opcode rd f3 rs1 rs2 f7 = f7 * 2 ^ 25 + rs2 * 2 ^ 20 + low_fields opcode rd f3 rs1

abbrev pub f3_of_condition : Condition → ℕ
f3_of_condition Eq = 0
f3_of_condition Ne = 1
f3_of_condition Lt = 4
f3_of_condition Ge = 5
f3_of_condition Ltu = 6
f3_of_condition Geu = 7

abbrev pub f3_of_load : LoadKind → ℕ
f3_of_load Byte = 0
f3_of_load Half = 1
f3_of_load Word = 2
f3_of_load ByteUnsigned = 4
f3_of_load HalfUnsigned = 5

abbrev pub f3_of_store : Width → ℕ
f3_of_store W8 = 0
f3_of_store W16 = 1
f3_of_store W32 = 2

abbrev pub f3_of_immediate : ImmediateOp → ℕ
f3_of_immediate Addi = 0
f3_of_immediate Slti = 2
f3_of_immediate Sltiu = 3
f3_of_immediate Xori = 4
f3_of_immediate Ori = 6
f3_of_immediate Andi = 7

-- f3 and f7
abbrev pub codes_of_shift : ShiftOp → ℕ × ℕ
codes_of_shift Slli = (1, 0x00)
codes_of_shift Srli = (5, 0x00)
codes_of_shift Srai = (5, 0x20)

abbrev pub codes_of_register : RegisterOp → ℕ × ℕ
codes_of_register Add = (0, 0x00)
codes_of_register Sub = (0, 0x20)
codes_of_register Sll = (1, 0x00)
codes_of_register Slt = (2, 0x00)
codes_of_register Sltu = (3, 0x00)
codes_of_register Xor = (4, 0x00)
codes_of_register Srl = (5, 0x00)
codes_of_register Sra = (5, 0x20)
codes_of_register Or = (6, 0x00)
codes_of_register And = (7, 0x00)
codes_of_register Mul = (0, 0x01)
codes_of_register Mulh = (1, 0x01)
codes_of_register Mulhsu = (2, 0x01)
codes_of_register Mulhu = (3, 0x01)
codes_of_register Div = (4, 0x01)
codes_of_register Divu = (5, 0x01)
codes_of_register Rem = (6, 0x01)
codes_of_register Remu = (7, 0x01)

unfoldable pub encode : ScalarInsn → ℕ
encode (Lui rd imm) = encode_u imm (rd * 2 ^ 7 + 0x37)
encode (Auipc rd imm) = encode_u imm (rd * 2 ^ 7 + 0x17)
encode (Jal rd offset) = encode_j offset (rd * 2 ^ 7 + 0x6f)
encode (Jalr rd rs1 offset) = encode_i offset (low_fields 0x67 rd 0 rs1)
encode (Branch condition rs1 rs2 offset) =
    encode_b offset (middle_fields (f3_of_condition condition) rs1 rs2) 0x63
encode (Load kind rd rs1 offset) = encode_i offset (low_fields 0x03 rd (f3_of_load kind) rs1)
encode (Store size rs1 rs2 offset) = encode_s offset (middle_fields (f3_of_store size) rs1 rs2) 0x23
encode (Immediate op rd rs1 imm) = encode_i imm (low_fields 0x13 rd (f3_of_immediate op) rs1)
encode (ShiftImmediate op rd rs1 amount) =
    encode_r 0x13 rd (codes_of_shift op).0 rs1 amount (codes_of_shift op).1
encode (Register op rd rs1 rs2) =
    encode_r 0x33 rd (codes_of_register op).0 rs1 rs2 (codes_of_register op).1
encode Fence = 0x0ff0000f
encode Ecall = 0x00000073

-- fields that the word of an instruction has room for

abbrev pub IsRegister : ℕ → Type 0
IsRegister number = number < 32

-- a multiple of 4096 below 2 ^ 32
abbrev pub IsUpper : ℕ → Type 0
IsUpper imm = (imm % 4096 ≡ 0) × (imm < 2 ^ 32)

-- from -sign to sign - 1
abbrev pub IsSigned : ℕ → ℤ → Type 0
IsSigned sign z = (negsuc (sign - 1) ≤ℤ z) × (z ≤ℤ pos (sign - 1))

abbrev pub IsEven : ℤ → Type 0
IsEven z = modulo 2 z ≡ 0

abbrev pub IsEncodable : ScalarInsn → Type 0
IsEncodable (Lui rd imm) = IsRegister rd × IsUpper imm
IsEncodable (Auipc rd imm) = IsRegister rd × IsUpper imm
IsEncodable (Jal rd offset) = IsRegister rd × IsSigned 1048576 offset × IsEven offset
IsEncodable (Jalr rd rs1 offset) = IsRegister rd × IsRegister rs1 × IsSigned 2048 offset
IsEncodable (Branch condition rs1 rs2 offset) =
    IsRegister rs1 × IsRegister rs2 × IsSigned 4096 offset × IsEven offset
IsEncodable (Load kind rd rs1 offset) = IsRegister rd × IsRegister rs1 × IsSigned 2048 offset
IsEncodable (Store size rs1 rs2 offset) = IsRegister rs1 × IsRegister rs2 × IsSigned 2048 offset
IsEncodable (Immediate op rd rs1 imm) = IsRegister rd × IsRegister rs1 × IsSigned 2048 imm
IsEncodable (ShiftImmediate op rd rs1 amount) = IsRegister rd × IsRegister rs1 × (amount < 32)
IsEncodable (Register op rd rs1 rs2) = IsRegister rd × IsRegister rs1 × IsRegister rs2
IsEncodable Fence = Unit {0}
IsEncodable Ecall = Unit {0}
