pub mod Accesses
pub mod Transfers
pub mod Words
pub use Rattle.rv_decode.specs.Needs
pub use Rattle.region_mem.specs.Faults
pub use Rattle.region_mem.specs.Memory
pub use Rattle.vreg_groups.specs.Setup
pub mod StepLemmas
