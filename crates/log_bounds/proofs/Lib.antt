pub mod Takes
pub mod Opened
pub mod Spelled
pub mod Told
pub mod Requests
pub mod Logs
pub mod Owed
pub mod Room
