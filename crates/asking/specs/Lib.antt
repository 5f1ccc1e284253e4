pub mod Ask
pub mod Asking
pub mod Reach
pub mod Gathering
