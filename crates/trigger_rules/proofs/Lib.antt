pub mod Named
pub mod Asking
pub mod NamedParties
