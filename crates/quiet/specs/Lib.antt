pub mod Parts
pub mod Quiet
pub mod Like
pub mod Crossed
