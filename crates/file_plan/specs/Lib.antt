pub mod Layout
pub mod Ways
pub mod Decoded
pub mod Parts
pub mod Agree
pub mod Small
