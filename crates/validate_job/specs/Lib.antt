pub mod Job
pub mod Owed
pub mod Outcome
pub mod OwedAt
