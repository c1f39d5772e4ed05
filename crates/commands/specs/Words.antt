-- What several definitions here speak of.
pub use Rattle.vreg_groups.specs.VectorLength.{vlenb_of}
pub use Rattle.vreg_groups.specs.declared.policies.Agnostic.{Agnostic}
pub use Rattle.machine.specs.Machine.{Machine}
pub use Rattle.machine.specs.Start.{start}
pub use Rattle.block_checker.specs.Passes.{block_at}
pub use Rattle.job_file.specs.Job.{Text}
pub use Rattle.toml.specs.Data.{Members}
pub use Rattle.file_store.specs.Written.{Gains, Held, Written}
pub use Rattle.endings.specs.Words.{AcceptedView, Argument, CertificateView, CheckError, ElfError, ImageView, OpenError}
pub use Rattle.endings.specs.declared.halt.Halt.{Halt}
pub use Rattle.endings.specs.declared.halt.Why.{Why}
pub use Rattle.endings.specs.declared.stop.Status.{Status}
pub use Rattle.endings.specs.declared.stop.Stop.{Stop}
