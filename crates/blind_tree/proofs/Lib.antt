pub mod Grow
pub mod Spelled
pub mod AllLaws
pub mod TreeLaws
pub mod Agreement
pub mod Levels
pub mod KeptGrow
pub mod KeptLaws
pub mod SpelledCut
pub mod CoreGrow
pub mod ToldLaws
pub mod OpenedLaws
pub mod ListedLaws
pub mod Rises
pub mod Blinded
pub mod CoreLaws
pub mod OpensLaws
pub mod LimitLaws
pub mod SetLimits
pub mod Fitting
pub mod Sights
pub mod Recipients
mod FilledLaws
mod Ranged
mod SpelledViews
mod OpenedActions
