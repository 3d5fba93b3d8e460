pub mod Informed
