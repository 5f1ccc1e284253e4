pub mod Words
pub mod Choosing
pub mod Tallying
pub mod Adding
pub mod Counting
pub mod Whole
