-- The word of a scalar instruction means this instruction.
use Rattle.std.proofs.Common.{◌≡◌, ℕ, ◌+◌, ◌*◌, ◌^◌, ◌<◌, refl, Some, arith, ℤ}
use Rattle.rv_decode.specs.Bits.{bits, immediate_i, immediate_s, immediate_b, immediate_u, immediate_j}
use Rattle.rv_decode.specs.Decode.{meaning_of, table}
use Rattle.rv_decode.specs.System.{system_groups}
use Rattle.rv_decode.specs.Encode.{modulo, encode_i, encode_s, encode_b, encode_u, encode_j, encode_r, low_fields, middle_fields, encode, IsEncodable, IsSigned}
use Rattle.rv_decode.specs.Encode.{f3_of_condition, f3_of_load, f3_of_store, f3_of_immediate, codes_of_shift, codes_of_register}
use Rattle.rv_decode.specs.Words.{Condition, ImmediateOp, LoadKind, RegisterOp, ScalarInsn, ShiftOp, Width, Scalar, Lui, Auipc, Jal, Jalr}
use Rattle.rv_decode.specs.Words.{Branch, Load, Store, Immediate, ShiftImmediate, Register, Fence, Ecall, Eq, Ne, Lt, Ge, Ltu, Geu, Byte}
use Rattle.rv_decode.specs.Words.{Half, Word, ByteUnsigned, HalfUnsigned, W8, W16, W32, Addi, Slti, Sltiu, Xori, Ori, Andi, Slli, Srli}
use Rattle.rv_decode.specs.Words.{Srai, Add, Sub, Sll, Slt, Sltu, Xor, Srl, Sra, Or, And, Mul, Mulh, Mulhsu, Mulhu, Div, Divu, Rem, Remu}
use Rattle.rv_decode.proofs.Places.{back_i, back_s, back_b, back_u, back_j}
use Rattle.rv_decode.proofs.Fields.{opcode_of, rd_at, f3_at, rs1_at, rs2_at, f7_at}
use Rattle.rv_decode.proofs.Meanings.{means_lui, means_auipc, means_jal, means_jalr, means_branch, means_load, means_store, means_immediate, means_shift, means_register, means_fence}

plain_fence : meaning_of 0x0ff0000f ≡ Some (Scalar Fence)
unfolding bits
plain_fence = means_fence 0x0ff0000f refl refl

means_ecall : meaning_of 0x00000073 ≡ Some (Scalar Ecall)
unfolding meaning_of table system_groups bits
means_ecall = refl

-- The I format: the fields below the immediate.
record Low (word opcode rd f3 rs1 : ℕ) : Type 0 where
  at_opcode : bits 0 7 word ≡ opcode
  at_rd : bits 7 5 word ≡ rd
  at_f3 : bits 12 3 word ≡ f3
  at_rs1 : bits 15 5 word ≡ rs1

low_of : (high opcode rd f3 rs1 word : ℕ) → opcode < 2 ^ 7 → rd < 32 → f3 < 8 → rs1 < 32 → word ≡ high * 2 ^ 20 + low_fields opcode rd f3 rs1 → Low word opcode rd f3 rs1
unfolding low_fields
low_of high opcode rd f3 rs1 word o d f s w = record {
  at_opcode = opcode_of (high * 2 ^ 13 + rs1 * 2 ^ 8 + f3 * 2 ^ 5 + rd) opcode word o (omega arith);
  at_rd = rd_at (high * 2 ^ 8 + rs1 * 2 ^ 3 + f3) rd opcode word d o (omega arith);
  at_f3 = f3_at (high * 2 ^ 5 + rs1) f3 (rd * 2 ^ 7 + opcode) word f (omega arith) (omega arith);
  at_rs1 = rs1_at high rs1 (f3 * 2 ^ 12 + rd * 2 ^ 7 + opcode) word s (omega arith) (omega arith);
}

low_below : (opcode rd f3 rs1 : ℕ) → opcode < 2 ^ 7 → rd < 32 → f3 < 8 → rs1 < 32 → low_fields opcode rd f3 rs1 < 2 ^ 20
unfolding low_fields
low_below opcode rd f3 rs1 o d f s = omega arith

-- the S and B formats: the fields between the parts of the immediate, and the opcode
record Middle (word opcode f3 rs1 rs2 : ℕ) : Type 0 where
  at_opcode : bits 0 7 word ≡ opcode
  at_f3 : bits 12 3 word ≡ f3
  at_rs1 : bits 15 5 word ≡ rs1
  at_rs2 : bits 20 5 word ≡ rs2

middle_of : (top low opcode f3 rs1 rs2 word : ℕ) → opcode < 2 ^ 7 → low < 32 → f3 < 8 → rs1 < 32 → rs2 < 32 → word ≡ top * 2 ^ 25 + middle_fields f3 rs1 rs2 * 2 ^ 12 + low * 2 ^ 7 + opcode → Middle word opcode f3 rs1 rs2
unfolding middle_fields
middle_of top low opcode f3 rs1 rs2 word o l f s t w = record {
  at_opcode = opcode_of (top * 2 ^ 18 + rs2 * 2 ^ 13 + rs1 * 2 ^ 8 + f3 * 2 ^ 5 + low) opcode word o (omega arith);
  at_f3 = f3_at (top * 2 ^ 10 + rs2 * 2 ^ 5 + rs1) f3 (low * 2 ^ 7 + opcode) word f (omega arith) (omega arith);
  at_rs1 = rs1_at (top * 2 ^ 5 + rs2) rs1 (f3 * 2 ^ 12 + low * 2 ^ 7 + opcode) word s (omega arith) (omega arith);
  at_rs2 = rs2_at top rs2 (rs1 * 2 ^ 15 + f3 * 2 ^ 12 + low * 2 ^ 7 + opcode) word t (omega arith) (omega arith);
}

middle_below : (f3 rs1 rs2 : ℕ) → f3 < 8 → rs1 < 32 → rs2 < 32 → middle_fields f3 rs1 rs2 < 2 ^ 13
unfolding middle_fields
middle_below f3 rs1 rs2 f s t = omega arith

middle_s : (imm : ℤ) (opcode f3 rs1 rs2 : ℕ) → opcode < 2 ^ 7 → f3 < 8 → rs1 < 32 → rs2 < 32 → Middle (encode_s imm (middle_fields f3 rs1 rs2) opcode) opcode f3 rs1 rs2
unfolding encode_s bits
middle_s imm opcode f3 rs1 rs2 o f s t =
    let n : ℕ = modulo 4096 imm in
    middle_of (bits 5 7 n) (bits 0 5 n) opcode f3 rs1 rs2 _ o (omega arith) f s t refl

middle_b : (imm : ℤ) (opcode f3 rs1 rs2 : ℕ) → opcode < 2 ^ 7 → f3 < 8 → rs1 < 32 → rs2 < 32 → Middle (encode_b imm (middle_fields f3 rs1 rs2) opcode) opcode f3 rs1 rs2
unfolding encode_b bits
middle_b imm opcode f3 rs1 rs2 o f s t =
    let n : ℕ = modulo 8192 imm in
    middle_of (bits 12 1 n * 64 + bits 5 6 n) (bits 1 4 n * 2 + bits 11 1 n) opcode f3 rs1 rs2 _ o (omega arith) f s t (omega arith)

-- the U and J formats: the fields below the immediate
record Lowest (word opcode rd : ℕ) : Type 0 where
  at_opcode : bits 0 7 word ≡ opcode
  at_rd : bits 7 5 word ≡ rd

lowest_of : (high opcode rd word : ℕ) → opcode < 2 ^ 7 → rd < 32 → word ≡ high * 2 ^ 12 + (rd * 2 ^ 7 + opcode) → Lowest word opcode rd
lowest_of high opcode rd word o d w = record {
  at_opcode = opcode_of (high * 2 ^ 5 + rd) opcode word o (omega arith);
  at_rd = rd_at high rd opcode word d o (omega arith);
}

lowest_u : (imm opcode rd : ℕ) → opcode < 2 ^ 7 → rd < 32 → Lowest (encode_u imm (rd * 2 ^ 7 + opcode)) opcode rd
unfolding encode_u
lowest_u imm opcode rd o d = lowest_of (bits 12 20 imm) opcode rd _ o d refl

lowest_j : (imm : ℤ) (opcode rd : ℕ) → opcode < 2 ^ 7 → rd < 32 → Lowest (encode_j imm (rd * 2 ^ 7 + opcode)) opcode rd
unfolding encode_j
lowest_j imm opcode rd o d =
    let n : ℕ = modulo 2097152 imm in
    lowest_of (bits 20 1 n * 2 ^ 19 + bits 1 10 n * 2 ^ 9 + bits 11 1 n * 2 ^ 8 + bits 12 8 n) opcode rd _ o d (omega arith)

condition_below : (op : Condition) → f3_of_condition op < 8
condition_below op = elim op as (λ o. f3_of_condition o < 8) [ Eq ↦ omega arith | Ne ↦ omega arith | Lt ↦ omega arith | Ge ↦ omega arith | Ltu ↦ omega arith | Geu ↦ omega arith ]

load_below : (op : LoadKind) → f3_of_load op < 8
load_below op = elim op as (λ o. f3_of_load o < 8) [ Byte ↦ omega arith | Half ↦ omega arith | Word ↦ omega arith | ByteUnsigned ↦ omega arith | HalfUnsigned ↦ omega arith ]

store_below : (op : Width) → f3_of_store op < 8
store_below op = elim op as (λ o. f3_of_store o < 8) [ W8 ↦ omega arith | W16 ↦ omega arith | W32 ↦ omega arith ]

immediate_below : (op : ImmediateOp) → f3_of_immediate op < 8
immediate_below op = elim op as (λ o. f3_of_immediate o < 8) [ Addi ↦ omega arith | Slti ↦ omega arith | Sltiu ↦ omega arith | Xori ↦ omega arith | Ori ↦ omega arith | Andi ↦ omega arith ]

shift_below : (op : ShiftOp) → ((codes_of_shift op).0 < 8) × ((codes_of_shift op).1 < 128)
shift_below op = elim op as (λ o. ((codes_of_shift o).0 < 8) × ((codes_of_shift o).1 < 128)) [ Slli ↦ (omega arith, omega arith) | Srli ↦ (omega arith, omega arith) | Srai ↦ (omega arith, omega arith) ]

register_below : (op : RegisterOp) → ((codes_of_register op).0 < 8) × ((codes_of_register op).1 < 128)
register_below op = elim op as (λ o. ((codes_of_register o).0 < 8) × ((codes_of_register o).1 < 128)) [ Add ↦ (omega arith, omega arith) | Sub ↦ (omega arith, omega arith) | Sll ↦ (omega arith, omega arith) | Slt ↦ (omega arith, omega arith) | Sltu ↦ (omega arith, omega arith) | Xor ↦ (omega arith, omega arith) | Srl ↦ (omega arith, omega arith) | Sra ↦ (omega arith, omega arith) | Or ↦ (omega arith, omega arith) | And ↦ (omega arith, omega arith) | Mul ↦ (omega arith, omega arith) | Mulh ↦ (omega arith, omega arith) | Mulhsu ↦ (omega arith, omega arith) | Mulhu ↦ (omega arith, omega arith) | Div ↦ (omega arith, omega arith) | Divu ↦ (omega arith, omega arith) | Rem ↦ (omega arith, omega arith) | Remu ↦ (omega arith, omega arith) ]

-- each instruction, from the fields of a word

lui_from : (rd imm word : ℕ) → Lowest word 0x37 rd → immediate_u word ≡ imm → meaning_of word ≡ Some (Scalar (Lui rd imm))
lui_from rd imm word f e = let m = means_lui word f.at_opcode in let d = f.at_rd in cc

auipc_from : (rd imm word : ℕ) → Lowest word 0x17 rd → immediate_u word ≡ imm → meaning_of word ≡ Some (Scalar (Auipc rd imm))
auipc_from rd imm word f e = let m = means_auipc word f.at_opcode in let d = f.at_rd in cc

jal_from : (rd : ℕ) (offset : ℤ) (word : ℕ) → Lowest word 0x6f rd → immediate_j word ≡ offset → meaning_of word ≡ Some (Scalar (Jal rd offset))
jal_from rd offset word f e = let m = means_jal word f.at_opcode in let d = f.at_rd in cc

jalr_from : (rd rs1 : ℕ) (offset : ℤ) (word : ℕ) → Low word 0x67 rd 0 rs1 → immediate_i word ≡ offset → meaning_of word ≡ Some (Scalar (Jalr rd rs1 offset))
jalr_from rd rs1 offset word f e = let m = means_jalr word f.at_opcode f.at_f3 in let d = f.at_rd in let s = f.at_rs1 in cc

branch_from : (op : Condition) (rs1 rs2 : ℕ) (offset : ℤ) (word : ℕ) → Middle word 0x63 (f3_of_condition op) rs1 rs2 → immediate_b word ≡ offset → meaning_of word ≡ Some (Scalar (Branch op rs1 rs2 offset))
branch_from op rs1 rs2 offset word f e = let m = means_branch op word f.at_opcode f.at_f3 in let s = f.at_rs1 in let t = f.at_rs2 in cc

load_from : (op : LoadKind) (rd rs1 : ℕ) (offset : ℤ) (word : ℕ) → Low word 0x03 rd (f3_of_load op) rs1 → immediate_i word ≡ offset → meaning_of word ≡ Some (Scalar (Load op rd rs1 offset))
load_from op rd rs1 offset word f e = let m = means_load op word f.at_opcode f.at_f3 in let d = f.at_rd in let s = f.at_rs1 in cc

store_from : (op : Width) (rs1 rs2 : ℕ) (offset : ℤ) (word : ℕ) → Middle word 0x23 (f3_of_store op) rs1 rs2 → immediate_s word ≡ offset → meaning_of word ≡ Some (Scalar (Store op rs1 rs2 offset))
store_from op rs1 rs2 offset word f e = let m = means_store op word f.at_opcode f.at_f3 in let s = f.at_rs1 in let t = f.at_rs2 in cc

immediate_from : (op : ImmediateOp) (rd rs1 : ℕ) (imm : ℤ) (word : ℕ) → Low word 0x13 rd (f3_of_immediate op) rs1 → immediate_i word ≡ imm → meaning_of word ≡ Some (Scalar (Immediate op rd rs1 imm))
immediate_from op rd rs1 imm word f e = let m = means_immediate op word f.at_opcode f.at_f3 in let d = f.at_rd in let s = f.at_rs1 in cc

-- the R format: two more fields above the low ones
record High (word rs2 f7 : ℕ) : Type 0 where
  at_rs2 : bits 20 5 word ≡ rs2
  at_f7 : bits 25 7 word ≡ f7

high_of : (opcode rd f3 rs1 rs2 f7 : ℕ) → opcode < 2 ^ 7 → rd < 32 → f3 < 8 → rs1 < 32 → rs2 < 32 → f7 < 128 → High (encode_r opcode rd f3 rs1 rs2 f7) rs2 f7
unfolding encode_r
high_of opcode rd f3 rs1 rs2 f7 o d f s t u =
    let below : low_fields opcode rd f3 rs1 < 2 ^ 20 = low_below opcode rd f3 rs1 o d f s in
    record {
      at_rs2 = rs2_at f7 rs2 (low_fields opcode rd f3 rs1) _ t below (omega arith);
      at_f7 = f7_at 0 f7 (rs2 * 2 ^ 20 + low_fields opcode rd f3 rs1) _ u (omega arith) (omega arith);
    }

low_r : (opcode rd f3 rs1 rs2 f7 : ℕ) → opcode < 2 ^ 7 → rd < 32 → f3 < 8 → rs1 < 32 → Low (encode_r opcode rd f3 rs1 rs2 f7) opcode rd f3 rs1
unfolding encode_r
low_r opcode rd f3 rs1 rs2 f7 o d f s = low_of (f7 * 32 + rs2) opcode rd f3 rs1 _ o d f s (omega arith)

shift_from : (op : ShiftOp) (rd rs1 amount : ℕ) (word : ℕ) → Low word 0x13 rd (codes_of_shift op).0 rs1 → High word amount (codes_of_shift op).1 → meaning_of word ≡ Some (Scalar (ShiftImmediate op rd rs1 amount))
shift_from op rd rs1 amount word f g = let m = means_shift op word f.at_opcode f.at_f3 g.at_f7 in let d = f.at_rd in let s = f.at_rs1 in let t = g.at_rs2 in cc

register_from : (op : RegisterOp) (rd rs1 rs2 : ℕ) (word : ℕ) → Low word 0x33 rd (codes_of_register op).0 rs1 → High word rs2 (codes_of_register op).1 → meaning_of word ≡ Some (Scalar (Register op rd rs1 rs2))
register_from op rd rs1 rs2 word f g = let m = means_register op word f.at_opcode f.at_f3 g.at_f7 in let d = f.at_rd in let s = f.at_rs1 in let t = g.at_rs2 in cc

low_i : (imm : ℤ) (opcode rd f3 rs1 : ℕ) → opcode < 2 ^ 7 → rd < 32 → f3 < 8 → rs1 < 32 → Low (encode_i imm (low_fields opcode rd f3 rs1)) opcode rd f3 rs1
unfolding encode_i
low_i imm opcode rd f3 rs1 o d f s = low_of (modulo 4096 imm) opcode rd f3 rs1 _ o d f s refl

-- the word of an instruction with an immediate of the I format has its fields, and the immediate
record IsI (word opcode rd f3 rs1 : ℕ) (imm : ℤ) : Type 0 where
  fields : Low word opcode rd f3 rs1
  read : immediate_i word ≡ imm

word_i : (imm : ℤ) (opcode rd f3 rs1 : ℕ) → opcode < 2 ^ 7 → f3 < 8 → rd < 32 → rs1 < 32 → IsSigned 2048 imm → IsI (encode_i imm (low_fields opcode rd f3 rs1)) opcode rd f3 rs1 imm
word_i imm opcode rd f3 rs1 o f d s h = record {
  fields = low_i imm opcode rd f3 rs1 o d f s;
  read = back_i imm _ h.0 h.1 (low_below opcode rd f3 rs1 o d f s);
}

pub encoded : (insn : ScalarInsn) → IsEncodable insn → meaning_of (encode insn) ≡ Some (Scalar insn)
unfolding encode
encoded (Lui rd imm) h =
    let d : rd < 32 = h.0 in
    lui_from rd imm _ (lowest_u imm 0x37 rd (omega arith) d) (back_u imm (rd * 2 ^ 7 + 0x37) h.1.0 h.1.1 (omega arith))
encoded (Auipc rd imm) h =
    let d : rd < 32 = h.0 in
    auipc_from rd imm _ (lowest_u imm 0x17 rd (omega arith) d) (back_u imm (rd * 2 ^ 7 + 0x17) h.1.0 h.1.1 (omega arith))
encoded (Jal rd offset) h =
    let d : rd < 32 = h.0 in
    jal_from rd offset _ (lowest_j offset 0x6f rd (omega arith) d) (back_j offset (rd * 2 ^ 7 + 0x6f) h.1.0 h.1.1 h.2 (omega arith))
encoded (Jalr rd rs1 offset) h =
    let w = word_i offset 0x67 rd 0 rs1 (omega arith) (omega arith) h.0 h.1 h.2 in
    jalr_from rd rs1 offset _ w.fields w.read
encoded (Branch op rs1 rs2 offset) h =
    let f : f3_of_condition op < 8 = condition_below op in
    branch_from op rs1 rs2 offset _
    (middle_b offset 0x63 (f3_of_condition op) rs1 rs2 (omega arith) f h.0 h.1)
    (back_b offset _ 0x63 h.2.0 h.2.1 h.3 (middle_below (f3_of_condition op) rs1 rs2 f h.0 h.1) (omega arith))
encoded (Load op rd rs1 offset) h =
    let w = word_i offset 0x03 rd (f3_of_load op) rs1 (omega arith) (load_below op) h.0 h.1 h.2 in
    load_from op rd rs1 offset _ w.fields w.read
encoded (Store op rs1 rs2 offset) h =
    let f : f3_of_store op < 8 = store_below op in
    store_from op rs1 rs2 offset _
    (middle_s offset 0x23 (f3_of_store op) rs1 rs2 (omega arith) f h.0 h.1)
    (back_s offset _ 0x23 h.2.0 h.2.1 (middle_below (f3_of_store op) rs1 rs2 f h.0 h.1) (omega arith))
encoded (Immediate op rd rs1 imm) h =
    let w = word_i imm 0x13 rd (f3_of_immediate op) rs1 (omega arith) (immediate_below op) h.0 h.1 h.2 in
    immediate_from op rd rs1 imm _ w.fields w.read
encoded (ShiftImmediate op rd rs1 amount) h =
    let f = shift_below op in
    shift_from op rd rs1 amount _
    (low_r 0x13 rd (codes_of_shift op).0 rs1 amount (codes_of_shift op).1 (omega arith) h.0 f.0 h.1)
    (high_of 0x13 rd (codes_of_shift op).0 rs1 amount (codes_of_shift op).1 (omega arith) h.0 f.0 h.1 h.2 f.1)
encoded (Register op rd rs1 rs2) h =
    let f = register_below op in
    register_from op rd rs1 rs2 _
    (low_r 0x33 rd (codes_of_register op).0 rs1 rs2 (codes_of_register op).1 (omega arith) h.0 f.0 h.1)
    (high_of 0x33 rd (codes_of_register op).0 rs1 rs2 (codes_of_register op).1 (omega arith) h.0 f.0 h.1 h.2 f.1)
encoded Fence h = plain_fence
encoded Ecall h = means_ecall
