pub mod Lists
pub mod Model
pub mod Fills
pub mod Walks
pub mod Numbers
