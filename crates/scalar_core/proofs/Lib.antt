pub mod Division
pub mod UpperHalf
