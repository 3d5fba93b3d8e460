pub mod Knowledge
pub mod Counterparties
pub mod Commitments
pub mod Asked
