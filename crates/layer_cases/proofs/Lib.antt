mod CanShare
mod Checkable
mod Each
pub mod Fronts
mod Hosted
mod LateJobs
mod Worlds
mod Surely
