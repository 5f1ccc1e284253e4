pub mod Filled
pub mod Below
pub mod Rows
pub mod Entries
