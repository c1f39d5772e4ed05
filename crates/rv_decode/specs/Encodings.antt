-- The words that encode an instruction, and the instructions that have one.
use Rattle.std.specs.Prelude.{◌≡◌, ℕ, Some}
use Rattle.rv_decode.specs.Bits.{bits}
use Rattle.rv_decode.specs.Decode.{meaning_of}
use Rattle.rv_decode.specs.Encode.{encode, IsEncodable}
use Rattle.rv_decode.specs.EncodeSystem.{encode_csr, CsrFits}
use Rattle.rv_decode.specs.EncodeVector.{encode_arith, encode_vset, ArithFits, VSetFits}
use Rattle.rv_decode.specs.EncodeElements.{encode_mask, encode_perm, encode_reduce, encode_move, MaskFits, PermFits, ReduceFits, MoveFits}
use Rattle.rv_decode.specs.EncodeAccess.{encode_access, AccessFits}
use Rattle.rv_decode.specs.Words.{Insn, ScalarInsn, Lui, Auipc, Jal, Jalr, Branch, Load, Store, Immediate, ShiftImmediate, Register, Fence}
use Rattle.rv_decode.specs.Words.{Ecall}

-- each instruction has one word, but for fence: opcode 0f with f3 0, whatever the other fields say
abbrev pub IsScalarWord : ScalarInsn → ℕ → Type 0
IsScalarWord Fence word = (bits 0 7 word ≡ 0x0f) × (bits 12 3 word ≡ 0)
IsScalarWord (Lui rd imm) word = word ≡ encode (Lui rd imm)
IsScalarWord (Auipc rd imm) word = word ≡ encode (Auipc rd imm)
IsScalarWord (Jal rd offset) word = word ≡ encode (Jal rd offset)
IsScalarWord (Jalr rd rs1 offset) word = word ≡ encode (Jalr rd rs1 offset)
IsScalarWord (Branch condition rs1 rs2 offset) word =
    word ≡ encode (Branch condition rs1 rs2 offset)
IsScalarWord (Load kind rd rs1 offset) word = word ≡ encode (Load kind rd rs1 offset)
IsScalarWord (Store size rs1 rs2 offset) word = word ≡ encode (Store size rs1 rs2 offset)
IsScalarWord (Immediate op rd rs1 imm) word = word ≡ encode (Immediate op rd rs1 imm)
IsScalarWord (ShiftImmediate op rd rs1 amount) word =
    word ≡ encode (ShiftImmediate op rd rs1 amount)
IsScalarWord (Register op rd rs1 rs2) word = word ≡ encode (Register op rd rs1 rs2)
IsScalarWord Ecall word = word ≡ encode Ecall

abbrev pub IsWordOf : Insn → ℕ → Type 0
IsWordOf (Insn.Scalar s) word = IsScalarWord s word
IsWordOf (Insn.Csr c) word = word ≡ encode_csr c
IsWordOf (Insn.VSet v) word = word ≡ encode_vset v
IsWordOf (Insn.VArith a) word = word ≡ encode_arith a
IsWordOf (Insn.VMask m) word = word ≡ encode_mask m
IsWordOf (Insn.VPerm p) word = word ≡ encode_perm p
IsWordOf (Insn.VReduce r) word = word ≡ encode_reduce r
IsWordOf (Insn.VMem m) word = word ≡ encode_access m
IsWordOf (Insn.VMove m) word = word ≡ encode_move m

-- fields that a word has room for, in a form that there is
abbrev pub FieldsFit : Insn → Type 0
FieldsFit (Insn.Scalar s) = IsEncodable s
FieldsFit (Insn.Csr c) = CsrFits c
FieldsFit (Insn.VSet v) = VSetFits v
FieldsFit (Insn.VArith a) = ArithFits a
FieldsFit (Insn.VMask m) = MaskFits m
FieldsFit (Insn.VPerm p) = PermFits p
FieldsFit (Insn.VReduce r) = ReduceFits r
FieldsFit (Insn.VMem m) = AccessFits m
FieldsFit (Insn.VMove m) = MoveFits m

-- what a word means is well formed
abbrev pub MeaningsFit : Type 0
MeaningsFit = (word : ℕ) (insn : Insn) → meaning_of word ≡ Some insn → FieldsFit insn
