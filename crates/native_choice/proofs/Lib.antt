pub mod FlashBody
pub mod NativeCrossings
