pub mod Chains
pub mod Listed
pub mod Lists
pub mod Texts
pub mod Walk
