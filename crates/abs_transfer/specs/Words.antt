-- What definitions here speak of that other crates define.
pub use Rattle.rv_decode.specs.Needs.{needs_of}
pub use Rattle.rv_decode.specs.declared.extents.Operand.{Operand}
pub use Rattle.rv_decode.specs.declared.instructions.CsrInsn.{CsrInsn}
pub use Rattle.rv_decode.specs.declared.instructions.Insn.{Insn}
pub use Rattle.rv_decode.specs.declared.instructions.ScalarInsn.{ScalarInsn}
pub use Rattle.rv_decode.specs.declared.instructions.ScalarInsn.TheVariants.{Lui, Auipc, Jal, Jalr, Branch, ShiftImmediate, Register, Fence, Ecall}
pub use Rattle.rv_decode.specs.declared.instructions.VMask.TheVariants.{Logic, Count, First, SetFirst, Iota, Index}
pub use Rattle.linear_facts.specs.Forms.{Linear, number_form, atom_form, scaled, sum_of, within}
pub use Rattle.linear_facts.specs.Sums.{range_of_form}
pub use Rattle.linear_facts.specs.declared.ranges.Atom.{Atom}
pub use Rattle.linear_facts.specs.declared.ranges.Range.{Range}
pub use Rattle.vreg_groups.specs.Legality.{is_legal}
pub use Rattle.vreg_groups.specs.VectorType.{vlmax_of, vtype_of}
pub use Rattle.vreg_groups.specs.declared.vector_length.Vconfig.{Vconfig}
pub use Rattle.vreg_groups.specs.declared.vector_type.Vtype.{Vtype}
pub use Rattle.cert_note.specs.declared.values.VectorFact.{VectorFact}
pub use Rattle.scalar_core.specs.Arithmetic.{unsigned}
pub use Rattle.scalar_core.specs.Hart.{Hart}
pub use Rattle.scalar_core.specs.Step.{size_of_load}
