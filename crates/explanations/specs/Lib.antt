pub mod Address
pub mod Headers
pub mod Image
pub mod Certificate
pub mod Words
pub mod Refusal
