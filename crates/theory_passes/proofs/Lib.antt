pub mod Elements
pub mod Runs
pub mod Pass
pub mod Joint
pub mod Alone
pub mod Single
pub mod Unknown
pub mod Bounds
