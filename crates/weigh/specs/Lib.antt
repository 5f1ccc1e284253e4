pub mod Weigh
pub mod Weighing
