pub mod KeptMemory
pub mod OpSteps
pub mod Permits
pub mod ReadsInside
pub mod StartLemmas
pub mod WritesInside
pub mod WrittenAlike
pub mod WrittenBytes
