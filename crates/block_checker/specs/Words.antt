-- What several definitions here speak of.
pub use Rattle.elf_image.specs.Image.{ImageView, code_at}
pub use Rattle.vreg_groups.specs.VectorLength.{vlenb_of}
pub use Rattle.vreg_groups.specs.declared.vector_length.Vlen.{Vlen}
pub use Rattle.region_mem.specs.Parameter.{Argument}
pub use Rattle.cert_note.specs.Certificate.{CertificateView}
pub use Rattle.cert_note.specs.declared.values.Block.{Block}
pub use Rattle.abs_state.specs.State.{AbstractView}
pub use Rattle.abs_state.specs.StepLaws.{jumps}
pub use Rattle.abs_domain.specs.declared.why.Why.{Why}
pub use Rattle.block_checker.specs.declared.errors.CheckError.{CheckError}
