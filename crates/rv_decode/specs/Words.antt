-- The instructions' types and those of what they need, and the variants whose name alone
-- says whose they are; another is named with its type, as `Addressing.Mask`.
pub use Rattle.rv_decode.specs.declared.instructions.{Insn.Insn, ScalarInsn.ScalarInsn, CsrInsn.CsrInsn, VSet.VSet, VArith.VArith}
pub use Rattle.rv_decode.specs.declared.instructions.{VMask.VMask, VPerm.VPerm, VReduce.VReduce, VMem.VMem, VMove.VMove}
pub use Rattle.rv_decode.specs.declared.instructions.{Condition.Condition, LoadKind.LoadKind, ImmediateOp.ImmediateOp, ShiftOp.ShiftOp}
pub use Rattle.rv_decode.specs.declared.instructions.{RegisterOp.RegisterOp, CsrAction.CsrAction, CsrName.CsrName, CsrSource.CsrSource}
pub use Rattle.rv_decode.specs.declared.instructions.{Source.Source, IntOp.IntOp, MultiplyAddOp.MultiplyAddOp, CarryOp.CarryOp}
pub use Rattle.rv_decode.specs.declared.instructions.{CarryOutOp.CarryOutOp, CompareOp.CompareOp, FixedOp.FixedOp, WidenOp.WidenOp}
pub use Rattle.rv_decode.specs.declared.instructions.{WideOp.WideOp, WidenMultiplyAddOp.WidenMultiplyAddOp, NarrowOp.NarrowOp}
pub use Rattle.rv_decode.specs.declared.instructions.{ClipOp.ClipOp, Fraction.Fraction, LogicOp.LogicOp, FirstOp.FirstOp, Offset.Offset}
pub use Rattle.rv_decode.specs.declared.instructions.{FoldOp.FoldOp, Count.Count, Direction.Direction, Addressing.Addressing, Width.Width}
pub use Rattle.rv_decode.specs.declared.extents.{Eew.Eew, Extent.Extent, Operand.Operand, Operands.Operands, Sharing.Sharing}
pub use Rattle.rv_decode.specs.declared.instructions.Insn.TheVariants.{Scalar, Csr}
pub use Rattle.rv_decode.specs.declared.instructions.ScalarInsn.TheVariants.{Lui, Auipc, Jal, Jalr, Branch, Load, Store, Immediate, ShiftImmediate, Register, Fence, Ecall}
pub use Rattle.rv_decode.specs.declared.instructions.Condition.TheVariants.{Eq, Ne, Lt, Ge, Ltu, Geu}
pub use Rattle.rv_decode.specs.declared.instructions.LoadKind.TheVariants.{Byte, Half, Word, ByteUnsigned, HalfUnsigned}
pub use Rattle.rv_decode.specs.declared.instructions.ImmediateOp.TheVariants.{Addi, Slti, Sltiu, Xori, Ori, Andi}
pub use Rattle.rv_decode.specs.declared.instructions.ShiftOp.TheVariants.{Slli, Srli, Srai}
pub use Rattle.rv_decode.specs.declared.instructions.RegisterOp.TheVariants.{Add, Sub, Sll, Slt, Sltu, Xor, Srl, Sra, Or, And, Mul, Mulh, Mulhsu, Mulhu, Div, Divu, Rem, Remu}
pub use Rattle.rv_decode.specs.declared.instructions.CsrAction.TheVariants.{Write, Set, Clear}
pub use Rattle.rv_decode.specs.declared.instructions.CsrName.TheVariants.{Vxsat, Vxrm, Vcsr, Vl, Vtype, Vlenb}
pub use Rattle.rv_decode.specs.declared.instructions.VSet.TheVariants.{Vsetvli, Vsetivli, Vsetvl}
pub use Rattle.rv_decode.specs.declared.instructions.VArith.TheVariants.{Int, MultiplyAdd, Carry, CarryOut, Merge, Copy, Compare, Fixed, Widen, Wide, WidenMultiplyAdd, Narrow, Clip, Extend}
pub use Rattle.rv_decode.specs.declared.instructions.MultiplyAddOp.TheVariants.{Madd, Nmsub, Macc, Nmsac}
pub use Rattle.rv_decode.specs.declared.instructions.CarryOp.TheVariants.{Adc, Sbc}
pub use Rattle.rv_decode.specs.declared.instructions.CarryOutOp.TheVariants.{Madc, Msbc}
pub use Rattle.rv_decode.specs.declared.instructions.FixedOp.TheVariants.{Saddu, Sadd, Ssubu, Ssub, Aaddu, Aadd, Asubu, Asub, Smul, Ssrl, Ssra}
pub use Rattle.rv_decode.specs.declared.instructions.WidenMultiplyAddOp.TheVariants.{Maccu, Maccus, Maccsu}
pub use Rattle.rv_decode.specs.declared.instructions.VMask.TheVariants.{Logic, First, SetFirst, Iota, Index}
pub use Rattle.rv_decode.specs.declared.instructions.FirstOp.TheVariants.{Before, Only, Including}
pub use Rattle.rv_decode.specs.declared.instructions.VPerm.TheVariants.{SlideUp, SlideDown, SlideOneUp, SlideOneDown, Gather, Gather16, Compress}
pub use Rattle.rv_decode.specs.declared.instructions.VReduce.TheVariants.{Fold, WidenSum}
pub use Rattle.rv_decode.specs.declared.instructions.VMove.TheVariants.{ToScalar, FromScalar}
pub use Rattle.rv_decode.specs.declared.instructions.Count.TheVariants.{One, Two, Four, Eight}
pub use Rattle.rv_decode.specs.declared.instructions.Width.TheVariants.{W8, W16, W32}
