pub mod Choices
pub mod Entries
pub mod Kept
pub mod Log
pub mod Arrivals
pub mod Figures
pub mod Most
