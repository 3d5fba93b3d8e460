pub mod Items
pub mod JsonLaws
pub mod Kept
pub mod Keys
pub mod Nested
