pub mod Escape
pub mod ReadBack
pub mod Words
pub mod Marks
pub mod Elements
pub mod Opening
