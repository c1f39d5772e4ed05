-- The instruction that a flat form stands for.
use Rattle.rv_decode.specs.declared.instructions.ShiftOp.TheVariants.{Slli, Srli, Srai}
use Rattle.scalar_core.specs.Words.{ScalarInsn, Lui, Auipc, Jal, Jalr, Branch, Load, Store, Immediate, ShiftImmediate, Register, Fence, Ecall}
use Rattle.scalar_core.specs.Words.{Condition, LoadKind, Width}
use Rattle.scalar_core.specs.Words.{Add, Sub, Sll, Slt, Sltu, Xor, Srl, Sra, Or, And, Mul, Mulh, Mulhsu, Mulhu, Div, Divu, Rem, Remu}
use Rattle.scalar_core.specs.Words.{Addi, Slti, Sltiu, Xori, Ori, Andi}
use Rattle.scalar_core.specs.Arithmetic.{unsigned}
use Rattle.scalar_core.specs.declared.op.Op.{Op}
use Rattle.scalar_core.specs.declared.op.OpKind.TheVariants as kind

-- The fields that an instruction of this kind has are those of the flat form; its immediate or
-- offset is imm.
unfoldable pub insn_of : Op → ScalarInsn
insn_of op = elim op.kind [
  | kind.Lui ↦ Lui op.rd (unsigned op.imm)
  | kind.Auipc ↦ Auipc op.rd (unsigned op.imm)
  | kind.Jal ↦ Jal op.rd op.imm
  | kind.Jalr ↦ Jalr op.rd op.rs1 op.imm
  | kind.Beq ↦ Branch Condition.Eq op.rs1 op.rs2 op.imm
  | kind.Bne ↦ Branch Condition.Ne op.rs1 op.rs2 op.imm
  | kind.Blt ↦ Branch Condition.Lt op.rs1 op.rs2 op.imm
  | kind.Bge ↦ Branch Condition.Ge op.rs1 op.rs2 op.imm
  | kind.Bltu ↦ Branch Condition.Ltu op.rs1 op.rs2 op.imm
  | kind.Bgeu ↦ Branch Condition.Geu op.rs1 op.rs2 op.imm
  | kind.Lb ↦ Load LoadKind.Byte op.rd op.rs1 op.imm
  | kind.Lh ↦ Load LoadKind.Half op.rd op.rs1 op.imm
  | kind.Lw ↦ Load LoadKind.Word op.rd op.rs1 op.imm
  | kind.Lbu ↦ Load LoadKind.ByteUnsigned op.rd op.rs1 op.imm
  | kind.Lhu ↦ Load LoadKind.HalfUnsigned op.rd op.rs1 op.imm
  | kind.Sb ↦ Store Width.W8 op.rs1 op.rs2 op.imm
  | kind.Sh ↦ Store Width.W16 op.rs1 op.rs2 op.imm
  | kind.Sw ↦ Store Width.W32 op.rs1 op.rs2 op.imm
  | kind.Addi ↦ Immediate Addi op.rd op.rs1 op.imm
  | kind.Slti ↦ Immediate Slti op.rd op.rs1 op.imm
  | kind.Sltiu ↦ Immediate Sltiu op.rd op.rs1 op.imm
  | kind.Xori ↦ Immediate Xori op.rd op.rs1 op.imm
  | kind.Ori ↦ Immediate Ori op.rd op.rs1 op.imm
  | kind.Andi ↦ Immediate Andi op.rd op.rs1 op.imm
  | kind.Slli ↦ ShiftImmediate Slli op.rd op.rs1 (unsigned op.imm)
  | kind.Srli ↦ ShiftImmediate Srli op.rd op.rs1 (unsigned op.imm)
  | kind.Srai ↦ ShiftImmediate Srai op.rd op.rs1 (unsigned op.imm)
  | kind.Add ↦ Register Add op.rd op.rs1 op.rs2
  | kind.Sub ↦ Register Sub op.rd op.rs1 op.rs2
  | kind.Sll ↦ Register Sll op.rd op.rs1 op.rs2
  | kind.Slt ↦ Register Slt op.rd op.rs1 op.rs2
  | kind.Sltu ↦ Register Sltu op.rd op.rs1 op.rs2
  | kind.Xor ↦ Register Xor op.rd op.rs1 op.rs2
  | kind.Srl ↦ Register Srl op.rd op.rs1 op.rs2
  | kind.Sra ↦ Register Sra op.rd op.rs1 op.rs2
  | kind.Or ↦ Register Or op.rd op.rs1 op.rs2
  | kind.And ↦ Register And op.rd op.rs1 op.rs2
  | kind.Mul ↦ Register Mul op.rd op.rs1 op.rs2
  | kind.Mulh ↦ Register Mulh op.rd op.rs1 op.rs2
  | kind.Mulhsu ↦ Register Mulhsu op.rd op.rs1 op.rs2
  | kind.Mulhu ↦ Register Mulhu op.rd op.rs1 op.rs2
  | kind.Div ↦ Register Div op.rd op.rs1 op.rs2
  | kind.Divu ↦ Register Divu op.rd op.rs1 op.rs2
  | kind.Rem ↦ Register Rem op.rd op.rs1 op.rs2
  | kind.Remu ↦ Register Remu op.rd op.rs1 op.rs2
  | kind.Fence ↦ Fence
  | kind.Ecall ↦ Ecall
]
