pub mod Walking
pub mod Firsts
pub mod Breaking
pub mod Places
