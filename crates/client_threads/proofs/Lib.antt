mod OneAnswer
pub mod OwnResults
pub mod Brought
mod Captures
mod KeptCrossings
mod Crossings
