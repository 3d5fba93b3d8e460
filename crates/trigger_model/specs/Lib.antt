pub mod TwoParts
pub mod CausedRun
pub mod CausedRequests
