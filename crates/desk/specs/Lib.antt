pub mod Answers
pub mod Begun
pub mod Fields
pub mod Laws
pub mod Plain
pub mod Single
pub mod Ends
