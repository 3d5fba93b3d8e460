pub mod Slips
pub mod SetUp
pub mod Behind
pub mod Clients
pub mod Answers
pub mod Lanes
