pub mod Back
pub mod PermittedLemmas
pub mod OpenFaults
pub mod GoingLemmas
pub mod HostLemmas
pub mod LastLemmas
pub mod Refusals
pub mod StopLemmas
