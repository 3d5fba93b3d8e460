pub mod Tags
pub mod Strings
