pub mod Knowledge
pub mod Owing
pub mod Courses
pub mod Waiting
