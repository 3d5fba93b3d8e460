pub mod Sharings
pub mod Surely
