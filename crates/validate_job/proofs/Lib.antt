pub mod OwedAt
