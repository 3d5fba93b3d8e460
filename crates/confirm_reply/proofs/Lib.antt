mod Stakeholders
mod Conformance
mod Located
mod Taken
mod StartsFound
mod SplitCores
pub mod Placed
mod Trying
mod ShownAt
mod Verdicts
pub mod ByKnown
mod Answered
mod CoreSteps
mod FindSteps
mod StartSteps
mod RoleSteps
mod Gathering
mod NumberSteps
pub mod Checked
pub mod Checkable
pub mod Covered
pub mod KnownFacts
mod Sure
mod Ready
mod EachPlace
