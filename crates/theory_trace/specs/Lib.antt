pub mod Trace
pub mod Longest
pub mod Room
