pub mod Prepared
pub mod Within
pub mod Causes
pub mod Hosted
pub mod Machine
pub mod Opens
