pub mod Chunks
pub mod FixedPoint
pub mod Rounding
pub mod ModeLemmas
