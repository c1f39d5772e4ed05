-- What definitions here speak of that other crates define, and the variants whose name alone
-- says whose they are; another is named with its type, as `LoadKind.Byte`.
pub use Rattle.rv_decode.specs.declared.instructions.{Insn.Insn, ScalarInsn.ScalarInsn, CsrInsn.CsrInsn, Condition.Condition}
pub use Rattle.rv_decode.specs.declared.instructions.{LoadKind.LoadKind, ImmediateOp.ImmediateOp, ShiftOp.ShiftOp}
pub use Rattle.rv_decode.specs.declared.instructions.{RegisterOp.RegisterOp, Width.Width, CsrAction.CsrAction, CsrName.CsrName}
pub use Rattle.rv_decode.specs.declared.instructions.{CsrSource.CsrSource}
pub use Rattle.rv_decode.specs.declared.instructions.ScalarInsn.TheVariants.{Lui, Auipc, Jal, Jalr, Branch, Load, Store, Immediate, ShiftImmediate, Register, Fence, Ecall}
pub use Rattle.rv_decode.specs.declared.instructions.RegisterOp.TheVariants.{Add, Sub, Sll, Slt, Sltu, Xor, Srl, Sra, Or, And, Mul, Mulh, Mulhsu, Mulhu, Div, Divu, Rem, Remu}
pub use Rattle.rv_decode.specs.declared.instructions.ImmediateOp.TheVariants.{Addi, Slti, Sltiu, Xori, Ori, Andi}
pub use Rattle.rv_decode.specs.declared.instructions.ShiftOp.TheVariants.{Slli, Srli, Srai}
pub use Rattle.rv_decode.specs.declared.instructions.CsrName.TheVariants.{Vxsat, Vxrm, Vcsr, Vl, Vtype, Vlenb}
pub use Rattle.region_mem.specs.declared.faults.Fault.{Fault}
pub use Rattle.region_mem.specs.declared.faults.Fault.TheVariants.{JumpMisaligned, LoadFault, StoreFault}
pub use Rattle.region_mem.specs.Memory.{Memory, IsAccessSize, load_of, store_of}
pub use Rattle.vreg_groups.specs.declared.vector_length.Vconfig.{Vconfig}
