pub mod Escaped
pub mod Job
pub mod Make
pub mod Loops
pub mod Open
