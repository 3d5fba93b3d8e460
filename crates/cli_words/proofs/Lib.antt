pub mod Built
pub mod Commands
pub mod Given
pub mod Digits
pub mod Texts
pub mod Walked
pub mod Words
