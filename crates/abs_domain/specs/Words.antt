-- What definitions here speak of that other crates define.
pub use Rattle.elf_image.specs.Image.{ImageView}
pub use Rattle.rv_decode.specs.declared.instructions.CsrName.{CsrName}
pub use Rattle.rv_decode.specs.declared.instructions.ImmediateOp.{ImmediateOp}
pub use Rattle.rv_decode.specs.declared.instructions.LoadKind.{LoadKind}
pub use Rattle.rv_decode.specs.declared.instructions.RegisterOp.{RegisterOp}
pub use Rattle.rv_decode.specs.declared.instructions.ShiftOp.{ShiftOp}
pub use Rattle.linear_facts.specs.Forms.{value, Linear, IsForm, number_form, atom_form, scaled, sum_of, within}
pub use Rattle.linear_facts.specs.Ranges.{AtomTable, meet_of, AgreesWith}
pub use Rattle.linear_facts.specs.Sums.{range_of_form}
pub use Rattle.linear_facts.specs.declared.ranges.Atom.{Atom}
pub use Rattle.linear_facts.specs.declared.ranges.Range.{Range}
pub use Rattle.linear_facts.specs.declared.ranges.Split.{Split}
pub use Rattle.vreg_groups.specs.VectorLength.{vlenb_of}
pub use Rattle.vreg_groups.specs.declared.vector_length.Vconfig.{Vconfig}
pub use Rattle.region_mem.specs.Laws.{IsCodeSafe, AreBytes}
pub use Rattle.region_mem.specs.Memory.{Memory}
pub use Rattle.region_mem.specs.declared.faults.Right.{Right}
pub use Rattle.region_mem.specs.declared.parameter.Param.{Param}
pub use Rattle.cert_note.specs.Certificate.{CertificateView, IsCertificate}
pub use Rattle.cert_note.specs.declared.values.Block.{Block}
pub use Rattle.cert_note.specs.declared.values.Equality.{Equality}
pub use Rattle.cert_note.specs.declared.values.OrderFact.{OrderFact}
pub use Rattle.cert_note.specs.declared.values.RegisterFact.{RegisterFact}
pub use Rattle.scalar_core.specs.Arithmetic.{unsigned}
pub use Rattle.scalar_core.specs.Hart.{Hart, IsHart, reg_of}
pub use Rattle.scalar_core.specs.Step.{size_of_load}
