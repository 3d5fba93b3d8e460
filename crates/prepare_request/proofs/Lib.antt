mod Offered
pub mod Offers
pub mod Opens
mod Roots
mod Wants
mod Sealing
mod Machines
mod Prepares
mod PlainFaults
mod Told
pub mod Wanted
