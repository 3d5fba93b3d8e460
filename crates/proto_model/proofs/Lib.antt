pub mod Making
pub mod SealedMade
pub mod Told
pub mod Named
pub mod Seen
pub mod Noticed
