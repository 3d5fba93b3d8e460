pub mod Concat
