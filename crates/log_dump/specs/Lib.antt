pub mod Spelling
pub mod Reading
pub mod InRange
pub mod Spellable
pub mod Dumps
pub mod Room
