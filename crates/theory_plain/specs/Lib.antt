pub mod Numbered
pub mod Added
pub mod Decided
