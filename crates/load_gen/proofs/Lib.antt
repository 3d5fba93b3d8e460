pub mod AcceptedHosts
pub mod AcceptedPackages
pub mod AcceptedRounds
pub mod Named
pub mod Typed
