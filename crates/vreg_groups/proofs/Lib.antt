pub mod Ranges
pub mod Spans
pub mod Plain
mod LendableMemory
mod LoanLemmas
mod ChunkLemmas
