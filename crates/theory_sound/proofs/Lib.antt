pub mod Verdicts
pub mod Places
pub mod Window
pub mod Accepted
