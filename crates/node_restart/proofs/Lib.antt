pub mod Spelled
mod Restarts
mod PrunedStates
mod ReadBack
mod GoingOn
