-- What a word means by the fields that select its row.
use Rattle.std.proofs.Common.{◌≡◌, ℕ, refl, Some}
use Rattle.rv_decode.specs.Bits.{bits}
use Rattle.rv_decode.specs.Decode.{meaning_of, table}
use Rattle.rv_decode.specs.Scalar.{lui_groups, auipc_groups, jal_groups, jalr_groups, branch_groups, load_groups, store_groups, immediate_groups, register_groups, base_rows, multiply_rows, fence_groups}
use Rattle.rv_decode.specs.Scalar.{lui, auipc, jal, jalr, branch, load, store, immediate, shift, register}
use Rattle.rv_decode.specs.Encode.{f3_of_condition, f3_of_load, f3_of_store, f3_of_immediate, codes_of_shift, codes_of_register}
use Rattle.rv_decode.specs.Words.{Condition, ImmediateOp, LoadKind, RegisterOp, ShiftOp, Width, Scalar, Fence, Eq, Ne, Lt, Ge, Ltu, Geu}
use Rattle.rv_decode.specs.Words.{Byte, Half, Word, ByteUnsigned, HalfUnsigned, W8, W16, W32, Addi, Slti, Sltiu, Xori, Ori, Andi, Slli}
use Rattle.rv_decode.specs.Words.{Srli, Srai, Add, Sub, Sll, Slt, Sltu, Xor, Srl, Sra, Or, And, Mul, Mulh, Mulhsu, Mulhu, Div, Divu, Rem}
use Rattle.rv_decode.specs.Words.{Remu}

pub means_lui : (word : ℕ) → bits 0 7 word ≡ 0x37 → meaning_of word ≡ Some (lui word)
unfolding meaning_of table lui_groups
means_lui word e = rw e refl

pub means_auipc : (word : ℕ) → bits 0 7 word ≡ 0x17 → meaning_of word ≡ Some (auipc word)
unfolding meaning_of table auipc_groups
means_auipc word e = rw e refl

pub means_jal : (word : ℕ) → bits 0 7 word ≡ 0x6f → meaning_of word ≡ Some (jal word)
unfolding meaning_of table jal_groups
means_jal word e = rw e refl

pub means_jalr : (word : ℕ) → bits 0 7 word ≡ 0x67 → bits 12 3 word ≡ 0 → meaning_of word ≡ Some (jalr word)
unfolding meaning_of table jalr_groups
means_jalr word e f = rw (e, f) refl

pub means_branch : (op : Condition) (word : ℕ) → bits 0 7 word ≡ 0x63 → bits 12 3 word ≡ f3_of_condition op → meaning_of word ≡ Some (branch op word)
unfolding meaning_of table branch_groups
means_branch Eq word e f = rw (e, f) refl
means_branch Ne word e f = rw (e, f) refl
means_branch Lt word e f = rw (e, f) refl
means_branch Ge word e f = rw (e, f) refl
means_branch Ltu word e f = rw (e, f) refl
means_branch Geu word e f = rw (e, f) refl

pub means_load : (op : LoadKind) (word : ℕ) → bits 0 7 word ≡ 0x03 → bits 12 3 word ≡ f3_of_load op → meaning_of word ≡ Some (load op word)
unfolding meaning_of table load_groups
means_load Byte word e f = rw (e, f) refl
means_load Half word e f = rw (e, f) refl
means_load Word word e f = rw (e, f) refl
means_load ByteUnsigned word e f = rw (e, f) refl
means_load HalfUnsigned word e f = rw (e, f) refl

pub means_store : (op : Width) (word : ℕ) → bits 0 7 word ≡ 0x23 → bits 12 3 word ≡ f3_of_store op → meaning_of word ≡ Some (store op word)
unfolding meaning_of table store_groups
means_store W8 word e f = rw (e, f) refl
means_store W16 word e f = rw (e, f) refl
means_store W32 word e f = rw (e, f) refl

pub means_immediate : (op : ImmediateOp) (word : ℕ) → bits 0 7 word ≡ 0x13 → bits 12 3 word ≡ f3_of_immediate op → meaning_of word ≡ Some (immediate op word)
unfolding meaning_of table immediate_groups
means_immediate Addi word e f = rw (e, f) refl
means_immediate Slti word e f = rw (e, f) refl
means_immediate Sltiu word e f = rw (e, f) refl
means_immediate Xori word e f = rw (e, f) refl
means_immediate Ori word e f = rw (e, f) refl
means_immediate Andi word e f = rw (e, f) refl

pub means_shift : (op : ShiftOp) (word : ℕ) → bits 0 7 word ≡ 0x13 → bits 12 3 word ≡ (codes_of_shift op).0 → bits 25 7 word ≡ (codes_of_shift op).1 → meaning_of word ≡ Some (shift op word)
unfolding meaning_of table immediate_groups
means_shift Slli word e f g = rw (e, f, g) refl
means_shift Srli word e f g = rw (e, f, g) refl
means_shift Srai word e f g = rw (e, f, g) refl

pub means_register : (op : RegisterOp) (word : ℕ) → bits 0 7 word ≡ 0x33 → bits 12 3 word ≡ (codes_of_register op).0 → bits 25 7 word ≡ (codes_of_register op).1 → meaning_of word ≡ Some (register op word)
unfolding meaning_of table register_groups base_rows multiply_rows
means_register Add word e f g = rw (e, f, g) refl
means_register Sub word e f g = rw (e, f, g) refl
means_register Sll word e f g = rw (e, f, g) refl
means_register Slt word e f g = rw (e, f, g) refl
means_register Sltu word e f g = rw (e, f, g) refl
means_register Xor word e f g = rw (e, f, g) refl
means_register Srl word e f g = rw (e, f, g) refl
means_register Sra word e f g = rw (e, f, g) refl
means_register Or word e f g = rw (e, f, g) refl
means_register And word e f g = rw (e, f, g) refl
means_register Mul word e f g = rw (e, f, g) refl
means_register Mulh word e f g = rw (e, f, g) refl
means_register Mulhsu word e f g = rw (e, f, g) refl
means_register Mulhu word e f g = rw (e, f, g) refl
means_register Div word e f g = rw (e, f, g) refl
means_register Divu word e f g = rw (e, f, g) refl
means_register Rem word e f g = rw (e, f, g) refl
means_register Remu word e f g = rw (e, f, g) refl

pub means_fence : (word : ℕ) → bits 0 7 word ≡ 0x0f → bits 12 3 word ≡ 0 → meaning_of word ≡ Some (Scalar Fence)
unfolding meaning_of table fence_groups
means_fence word e f = rw (e, f) refl
