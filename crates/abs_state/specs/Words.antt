-- What definitions here speak of that other crates define.
pub use Rattle.elf_image.specs.Image.{ImageView, IsImage}
pub use Rattle.rv_decode.specs.Encodings.{FieldsFit}
pub use Rattle.rv_decode.specs.declared.extents.Operand.{Operand}
pub use Rattle.rv_decode.specs.declared.instructions.CsrInsn.{CsrInsn}
pub use Rattle.rv_decode.specs.declared.instructions.Insn.{Insn}
pub use Rattle.rv_decode.specs.declared.instructions.Insn.TheVariants.{Csr, VPerm, VReduce, VMove}
pub use Rattle.rv_decode.specs.declared.instructions.ScalarInsn.{ScalarInsn}
pub use Rattle.rv_decode.specs.declared.instructions.ScalarInsn.TheVariants.{Lui, Auipc, Jal, Jalr, Branch, ShiftImmediate, Register, Fence, Ecall}
pub use Rattle.rv_decode.specs.declared.instructions.VMask.TheVariants.{Logic, Count, First, SetFirst, Iota, Index}
pub use Rattle.linear_facts.specs.Forms.{value, Linear}
pub use Rattle.linear_facts.specs.Ranges.{AtomTable, meet_of, AgreesWith}
pub use Rattle.linear_facts.specs.Sums.{range_of_form}
pub use Rattle.linear_facts.specs.declared.ranges.Range.{Range}
pub use Rattle.vreg_groups.specs.Legality.{is_legal}
pub use Rattle.vreg_groups.specs.VectorLength.{vlenb_of}
pub use Rattle.vreg_groups.specs.VectorType.{type_in, vtype_of}
pub use Rattle.vreg_groups.specs.declared.vector_length.Vconfig.{Vconfig}
pub use Rattle.vreg_groups.specs.declared.vector_type.Vtype.{Vtype}
pub use Rattle.region_mem.specs.Laws.{IsCodeSafe, AreBytes}
pub use Rattle.region_mem.specs.Memory.{Memory}
pub use Rattle.cert_note.specs.Certificate.{CertificateView, IsCertificate}
pub use Rattle.cert_note.specs.declared.values.Block.{Block}
pub use Rattle.cert_note.specs.declared.values.Budget.{Budget}
pub use Rattle.cert_note.specs.declared.values.Equality.{Equality}
pub use Rattle.cert_note.specs.declared.values.OrderFact.{OrderFact}
pub use Rattle.cert_note.specs.declared.values.RegisterFact.{RegisterFact}
pub use Rattle.cert_note.specs.declared.values.VectorFact.{VectorFact}
pub use Rattle.scalar_core.specs.Arithmetic.{unsigned}
pub use Rattle.scalar_core.specs.Hart.{Hart, exit, IsHart, reg_of}
pub use Rattle.vector_core.specs.Vectors.{Vectors}
pub use Rattle.machine.specs.Machine.{Machine}
pub use Rattle.machine.specs.MachineStep.{carry_out}
