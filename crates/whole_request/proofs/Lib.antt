pub mod PutBack
pub mod Walked
pub mod Read
