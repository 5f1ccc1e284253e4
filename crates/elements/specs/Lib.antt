pub mod Elements
pub mod Turning
