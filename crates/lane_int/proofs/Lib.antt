pub mod ByteLemmas
pub mod ChunkLemmas
pub mod Overlay
pub mod ResizingLemmas
pub mod TurnedLemmas
pub mod VectorLemmas
pub mod ChunkKernelLemmas
