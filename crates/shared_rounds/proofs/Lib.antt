pub mod Based
mod Gathering
mod Joining
mod Queued
