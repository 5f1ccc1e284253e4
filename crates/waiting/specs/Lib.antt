pub mod Calm
pub mod Stirred
pub mod Notes
pub mod Telling
