pub mod Breakpoints
pub mod Commands
pub mod Lines
pub mod Moves
pub mod Numbers
pub mod Parse
pub mod Texts
pub mod Views
