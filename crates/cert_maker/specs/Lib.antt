pub mod Words
pub mod Loops
pub mod Certificates
pub mod Known
pub mod Laws
pub mod Make
pub mod Refusal
