mod Grow
mod Joins
mod Walks
mod FaultFacts
mod Filling
mod Moved
mod Preorders
pub mod Assembled
pub mod Sight
pub mod Cores
pub mod Once
pub mod Fitting
pub mod Shown
pub mod Confirming
pub mod TreesKept
pub mod Roots
pub mod Tops
pub mod Signed
pub mod Holes
pub mod Subtrees
mod Children
pub mod InPlace
