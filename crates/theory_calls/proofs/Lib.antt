pub mod Plan
pub mod Counted
pub mod Promises
