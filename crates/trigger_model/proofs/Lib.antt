pub mod CausedFacts
pub mod CausedSteps
pub mod RequestFacts
pub mod PartsFacts
