pub mod Memory
pub mod Decided
pub mod Plan
pub mod Counted
pub mod Promises
pub mod Engine
