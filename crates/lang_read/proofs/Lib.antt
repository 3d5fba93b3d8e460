pub mod Blocks
pub mod Operands
pub mod Pushed
