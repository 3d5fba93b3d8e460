pub mod First
pub mod Breaks
pub mod Rules
pub mod Placed
pub mod Walked
