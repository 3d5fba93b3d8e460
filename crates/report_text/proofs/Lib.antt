pub mod Levels
pub mod Escapes
pub mod Zipped
pub mod OfRound
pub mod OneMore
mod Recipients
