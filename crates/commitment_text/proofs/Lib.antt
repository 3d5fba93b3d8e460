pub mod FromBases
mod Agreeing
mod Asking
mod NextPairs
pub mod Knows
