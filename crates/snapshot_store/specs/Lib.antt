pub mod Spelling
pub mod Reading
pub mod Whole
pub mod InRange
pub mod Spellable
