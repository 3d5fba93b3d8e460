pub mod Admitted
pub mod Faults
pub mod Indexed
pub mod Keys
pub mod OpenRequests
pub mod Sequenced
pub mod Slips
