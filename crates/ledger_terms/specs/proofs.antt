pub mod Falls
pub mod NameBack
