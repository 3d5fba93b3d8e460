pub mod Go
