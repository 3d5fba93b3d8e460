pub mod Prefixes
pub mod Logs
pub mod Nodes
pub mod Preparing
pub mod Jobs
pub mod Mediators
pub mod Handing
pub mod NodeLists
