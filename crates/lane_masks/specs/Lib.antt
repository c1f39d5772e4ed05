pub mod Chunks
pub mod Folds
pub mod Masks
pub mod Permutations
