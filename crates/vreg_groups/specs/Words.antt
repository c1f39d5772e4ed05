-- Types of this crate and of rv_decode, and their variants, that definitions here speak of.
pub use Rattle.rv_decode.specs.declared.instructions.Insn.{Insn}
pub use Rattle.rv_decode.specs.declared.instructions.Width.{Width}
pub use Rattle.rv_decode.specs.declared.instructions.Width.TheVariants.{W8, W16, W32}
pub use Rattle.rv_decode.specs.declared.instructions.Count.{Count}
pub use Rattle.rv_decode.specs.declared.extents.Eew.{Eew}
pub use Rattle.rv_decode.specs.declared.extents.Extent.{Extent}
pub use Rattle.rv_decode.specs.declared.extents.Extent.TheVariants.{Group, Single, Mask, Whole}
pub use Rattle.rv_decode.specs.declared.extents.Operand.{Operand}
pub use Rattle.rv_decode.specs.declared.extents.Operands.{Operands}
pub use Rattle.rv_decode.specs.declared.extents.Sharing.{Sharing}
pub use Rattle.rv_decode.specs.declared.extents.Sharing.TheVariants.{ByWidth, Nothing}
pub use Rattle.vreg_groups.specs.declared.policies.Agnostic.{Agnostic}
pub use Rattle.vreg_groups.specs.declared.policies.Agnostic.TheVariants.{Keep, Ones}
pub use Rattle.vreg_groups.specs.declared.policies.Policy.{Policy}
pub use Rattle.vreg_groups.specs.declared.setup.Setup.{Setup}
pub use Rattle.vreg_groups.specs.declared.vector_length.Vconfig.{Vconfig}
pub use Rattle.vreg_groups.specs.declared.vector_type.Lmul.{Lmul}
pub use Rattle.vreg_groups.specs.declared.vector_type.Vtype.{Vtype}
