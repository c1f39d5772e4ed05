-- What definitions here speak of that other crates define.
pub use Rattle.rv_decode.specs.declared.instructions.{Insn.Insn, VArith.VArith, VSet.VSet}
pub use Rattle.rv_decode.specs.declared.instructions.{VMask.VMask, VPerm.VPerm, VReduce.VReduce}
pub use Rattle.rv_decode.specs.declared.instructions.{VMove.VMove, Source.Source, IntOp.IntOp}
pub use Rattle.rv_decode.specs.declared.instructions.{MultiplyAddOp.MultiplyAddOp, CarryOp.CarryOp}
pub use Rattle.rv_decode.specs.declared.instructions.{CarryOutOp.CarryOutOp, CompareOp.CompareOp}
pub use Rattle.rv_decode.specs.declared.instructions.{FixedOp.FixedOp, WidenOp.WidenOp}
pub use Rattle.rv_decode.specs.declared.instructions.{WideOp.WideOp}
pub use Rattle.rv_decode.specs.declared.instructions.{WidenMultiplyAddOp.WidenMultiplyAddOp}
pub use Rattle.rv_decode.specs.declared.instructions.{NarrowOp.NarrowOp, ClipOp.ClipOp}
pub use Rattle.rv_decode.specs.declared.instructions.{LogicOp.LogicOp, FirstOp.FirstOp}
pub use Rattle.rv_decode.specs.declared.instructions.{FoldOp.FoldOp, Fraction.Fraction}
pub use Rattle.rv_decode.specs.declared.instructions.{Offset.Offset, Direction.Direction}
pub use Rattle.rv_decode.specs.declared.instructions.{Addressing.Addressing, Width.Width}
pub use Rattle.rv_decode.specs.declared.instructions.{RegisterOp.RegisterOp, ScalarInsn.ScalarInsn}
pub use Rattle.rv_decode.specs.declared.instructions.{VMem.VMem}
pub use Rattle.rv_decode.specs.declared.instructions.Direction.TheVariants.{Load, Store}
pub use Rattle.rv_decode.specs.declared.instructions.Width.TheVariants.{W8, W16, W32}
pub use Rattle.rv_decode.specs.declared.extents.{Eew.Eew, Operands.Operands}
pub use Rattle.rv_decode.specs.declared.extents.Eew.TheVariants.{Same, Double, Fixed}
pub use Rattle.region_mem.specs.Memory.{Memory}
pub use Rattle.region_mem.specs.declared.faults.{Fault.Fault, Right.Right}
pub use Rattle.region_mem.specs.declared.faults.Fault.TheVariants.{Illegal, LoadFault, StoreFault}
pub use Rattle.region_mem.specs.declared.faults.Right.TheVariants.{Read, Write}
pub use Rattle.scalar_core.specs.Hart.{Hart, advanced, reg_of, with_reg}
pub use Rattle.vreg_groups.specs.{Elements.active_of, Elements.mask_bits, Group.Span}
pub use Rattle.rv_decode.specs.Instructions.{bytes_of_width}
pub use Rattle.vector_mem.specs.Accesses.{low_bits}
pub use Rattle.vreg_groups.specs.Group.{body_of}
pub use Rattle.vreg_groups.specs.declared.vector_length.{Avl.Avl, Vconfig.Vconfig}
pub use Rattle.vreg_groups.specs.declared.policies.Agnostic.{Agnostic}
pub use Rattle.vreg_groups.specs.declared.vector_type.Vtype.{Vtype}
pub use Rattle.vreg_groups.specs.declared.setup.Setup.{Setup}
