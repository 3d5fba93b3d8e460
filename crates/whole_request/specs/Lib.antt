pub mod Places
pub mod Completes
