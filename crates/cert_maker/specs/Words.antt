-- What definitions here speak of that other crates define.
pub use Rattle.elf_image.specs.Image.{ImageView}
pub use Rattle.region_mem.specs.declared.parameter.Param.{Param}
pub use Rattle.rv_decode.specs.declared.instructions.Insn.{Insn}
pub use Rattle.rv_decode.specs.declared.instructions.Width.{Width}
pub use Rattle.vreg_groups.specs.declared.vector_length.Vlen.{Vlen}
pub use Rattle.vreg_groups.specs.declared.vector_type.Vtype.{Vtype}
pub use Rattle.cert_note.specs.Certificate.{CertificateView}
pub use Rattle.cert_note.specs.declared.values.Budget.{Budget}
pub use Rattle.cert_note.specs.declared.values.Block.{Block}
pub use Rattle.cert_note.specs.declared.values.Equality.{Equality}
pub use Rattle.cert_note.specs.declared.values.RegisterFact.{RegisterFact}
pub use Rattle.cert_note.specs.declared.values.EqualityTerm.{EqualityTerm}
