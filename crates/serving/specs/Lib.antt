pub mod Pass
pub mod Outputs
pub mod Passing
