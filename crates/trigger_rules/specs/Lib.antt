pub mod Answers
pub mod Firing
pub mod Kept
pub mod Ids
