-- The rows of the scalar words of RV32I and M, by opcode.
use Rattle.std.specs.Prelude.{ℕ, List, [], ◌∷◌}
use Rattle.rv_decode.specs.Bits.{bits, rd_of, rs1_of, rs2_of, immediate_i, immediate_s, immediate_b, immediate_u, immediate_j}
use Rattle.rv_decode.specs.Rows.{Row, RowGroup, f3, f7, row, group, only_f3, only}
use Rattle.rv_decode.specs.Words.{Condition, ImmediateOp, Insn, LoadKind, RegisterOp, ShiftOp, Width, Scalar, Lui, Auipc, Jal, Jalr, Branch}
use Rattle.rv_decode.specs.Words.{Load, Store, Immediate, ShiftImmediate, Register, Fence, Eq, Ne, Lt, Ge, Ltu, Geu, Byte, Half, Word}
use Rattle.rv_decode.specs.Words.{ByteUnsigned, HalfUnsigned, W8, W16, W32, Addi, Slti, Sltiu, Xori, Ori, Andi, Slli, Srli, Srai, Add, Sub}
use Rattle.rv_decode.specs.Words.{Sll, Slt, Sltu, Xor, Srl, Sra, Or, And, Mul, Mulh, Mulhsu, Mulhu, Div, Divu, Rem, Remu}

-- what a word of each format means

abbrev pub lui : ℕ → Insn
lui word = Scalar (Lui (rd_of word) (immediate_u word))

abbrev pub auipc : ℕ → Insn
auipc word = Scalar (Auipc (rd_of word) (immediate_u word))

abbrev pub jal : ℕ → Insn
jal word = Scalar (Jal (rd_of word) (immediate_j word))

abbrev pub jalr : ℕ → Insn
jalr word = Scalar (Jalr (rd_of word) (rs1_of word) (immediate_i word))

abbrev pub branch : Condition → ℕ → Insn
branch condition word = Scalar (Branch condition (rs1_of word) (rs2_of word) (immediate_b word))

abbrev pub load : LoadKind → ℕ → Insn
load kind word = Scalar (Load kind (rd_of word) (rs1_of word) (immediate_i word))

abbrev pub store : Width → ℕ → Insn
store size word = Scalar (Store size (rs1_of word) (rs2_of word) (immediate_s word))

abbrev pub immediate : ImmediateOp → ℕ → Insn
immediate op word = Scalar (Immediate op (rd_of word) (rs1_of word) (immediate_i word))

abbrev pub shift : ShiftOp → ℕ → Insn
shift op word = Scalar (ShiftImmediate op (rd_of word) (rs1_of word) (bits 20 5 word))

abbrev pub register : RegisterOp → ℕ → Insn
register op word = Scalar (Register op (rd_of word) (rs1_of word) (rs2_of word))

-- opcodes 37, 17, 6f
unfoldable pub lui_groups : List RowGroup
lui_groups = only lui ∷ []

unfoldable pub auipc_groups : List RowGroup
auipc_groups = only auipc ∷ []

unfoldable pub jal_groups : List RowGroup
jal_groups = only jal ∷ []

-- opcode 67
unfoldable pub jalr_groups : List RowGroup
jalr_groups = only_f3 0 jalr ∷ []

-- opcode 63
unfoldable pub branch_groups : List RowGroup
branch_groups =
    only_f3 0 (branch Eq) ∷
    only_f3 1 (branch Ne) ∷
    only_f3 4 (branch Lt) ∷
    only_f3 5 (branch Ge) ∷
    only_f3 6 (branch Ltu) ∷
    only_f3 7 (branch Geu) ∷
    []

-- opcode 03
unfoldable pub load_groups : List RowGroup
load_groups =
    only_f3 0 (load Byte) ∷
    only_f3 1 (load Half) ∷
    only_f3 2 (load Word) ∷
    only_f3 4 (load ByteUnsigned) ∷
    only_f3 5 (load HalfUnsigned) ∷
    []

-- opcode 23
unfoldable pub store_groups : List RowGroup
store_groups =
    only_f3 0 (store W8) ∷
    only_f3 1 (store W16) ∷
    only_f3 2 (store W32) ∷
    []

-- opcode 13: a register and an immediate
unfoldable pub immediate_groups : List RowGroup
immediate_groups =
    only_f3 0 (immediate Addi) ∷
    group (f3 1 ∷ []) (row (f7 0x00 ∷ []) (shift Slli) ∷ []) ∷
    only_f3 2 (immediate Slti) ∷
    only_f3 3 (immediate Sltiu) ∷
    only_f3 4 (immediate Xori) ∷
    group (f3 5 ∷ []) (row (f7 0x00 ∷ []) (shift Srli) ∷ row (f7 0x20 ∷ []) (shift Srai) ∷ []) ∷
    only_f3 6 (immediate Ori) ∷
    only_f3 7 (immediate Andi) ∷
    []

-- opcode 33: two registers; f7 00, then 20, then 01 (the M extension)
unfoldable pub base_rows : List Row
base_rows =
    row (f3 0 ∷ []) (register Add) ∷
    row (f3 1 ∷ []) (register Sll) ∷
    row (f3 2 ∷ []) (register Slt) ∷
    row (f3 3 ∷ []) (register Sltu) ∷
    row (f3 4 ∷ []) (register Xor) ∷
    row (f3 5 ∷ []) (register Srl) ∷
    row (f3 6 ∷ []) (register Or) ∷
    row (f3 7 ∷ []) (register And) ∷
    []

unfoldable pub multiply_rows : List Row
multiply_rows =
    row (f3 0 ∷ []) (register Mul) ∷
    row (f3 1 ∷ []) (register Mulh) ∷
    row (f3 2 ∷ []) (register Mulhsu) ∷
    row (f3 3 ∷ []) (register Mulhu) ∷
    row (f3 4 ∷ []) (register Div) ∷
    row (f3 5 ∷ []) (register Divu) ∷
    row (f3 6 ∷ []) (register Rem) ∷
    row (f3 7 ∷ []) (register Remu) ∷
    []

unfoldable pub register_groups : List RowGroup
register_groups =
    group (f7 0x00 ∷ []) base_rows ∷
    group (f7 0x20 ∷ []) (row (f3 0 ∷ []) (register Sub) ∷ row (f3 5 ∷ []) (register Sra) ∷ []) ∷
    group (f7 0x01 ∷ []) multiply_rows ∷
    []

-- opcode 0f: fence, whatever its other fields say
unfoldable pub fence_groups : List RowGroup
fence_groups = only_f3 0 (λ word. Scalar Fence) ∷ []
