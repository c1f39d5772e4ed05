pub mod Chunks
pub mod Integer
pub mod LaneLemmas
pub mod Lists
pub mod Resizing
