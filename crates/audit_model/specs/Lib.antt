pub mod Standard
pub mod Rules
pub mod Cases
pub mod Judged
pub mod Example
