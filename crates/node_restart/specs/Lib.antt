pub mod Short
pub mod Restarted
pub mod GoingOn
