pub mod ChunkKernelLemmas
pub mod ChunkLaneLemmas
pub mod ChunkLemmas
pub mod KernelLemmas
pub mod RoundedLaneLemmas
pub mod RoundingLemmas
