-- What several definitions here speak of.
pub use Rattle.elf_image.specs.Image.{ImageView}
pub use Rattle.elf_image.specs.declared.error.ElfError.{ElfError}
pub use Rattle.region_mem.specs.Parameter.{Argument}
pub use Rattle.cert_note.specs.Certificate.{CertificateView}
pub use Rattle.cert_note.specs.declared.refusals.CertError.{CertError}
pub use Rattle.sandbox_run.specs.declared.outcome.OpenError.{OpenError}
pub use Rattle.block_checker.specs.Accepted.{AcceptedView}
pub use Rattle.block_checker.specs.Passes.{Checked, checked}
pub use Rattle.block_checker.specs.declared.errors.CheckError.{CheckError}
pub use Rattle.job_file.specs.declared.values.JobError.{JobError}
pub use Rattle.endings.specs.declared.halt.Halt.{Halt}
pub use Rattle.endings.specs.declared.halt.Why.{Why}
pub use Rattle.endings.specs.declared.stop.Status.{Status}
pub use Rattle.endings.specs.declared.stop.Stop.{Stop}
