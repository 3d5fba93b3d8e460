pub mod Reading
pub mod JudgeFacts
pub mod Sameness
pub mod Mapped
pub mod Uses
pub mod Knowing
