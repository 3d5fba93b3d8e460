pub mod Arguments
pub mod Command
pub mod Jobs
pub mod Within
