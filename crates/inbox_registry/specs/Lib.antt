pub mod Changes
pub mod Requests
pub mod Registry
pub mod ChangeLists
pub mod Steps
pub mod Room
pub mod Order
pub mod Offered
