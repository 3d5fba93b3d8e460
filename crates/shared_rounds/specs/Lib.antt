pub mod Queues
pub mod Retired
pub mod Joined
pub mod Machine
