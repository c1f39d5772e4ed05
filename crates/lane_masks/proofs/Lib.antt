pub mod ChunkLemmas
pub mod FoldLemmas
pub mod OverlayLemmas
