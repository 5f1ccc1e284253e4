pub mod Clear
pub mod Clearing
