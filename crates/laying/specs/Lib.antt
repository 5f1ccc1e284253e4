pub mod Answers
pub mod Steps
pub mod Told
pub mod Laws
pub mod Tables
pub mod Delays
pub mod Rows
