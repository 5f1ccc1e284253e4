pub mod Demands
pub mod Choices
pub mod Unblocked
