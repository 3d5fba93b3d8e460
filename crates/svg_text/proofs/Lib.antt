pub mod Runs
pub mod EscapeLaws
