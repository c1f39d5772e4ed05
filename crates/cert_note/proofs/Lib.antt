pub mod Loop
pub mod Equated
pub mod Numbers
pub mod Laws
pub mod Whole
pub mod PlaceLemmas
pub mod EvidenceLemmas
