pub mod Kinds
pub mod Parties
pub mod Literals
pub mod Operators
pub mod Exprs
pub mod Stmts
pub mod Packages
