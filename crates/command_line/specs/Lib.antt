pub mod Asked
pub mod Line
pub mod Program
pub mod Words
