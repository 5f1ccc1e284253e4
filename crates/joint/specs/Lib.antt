pub mod Minutes
pub mod Opened
