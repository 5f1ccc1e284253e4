pub mod Bodies
pub mod Search
pub mod Agree
