pub mod Sums
pub mod Answers
pub mod Laws
pub mod Weighed
