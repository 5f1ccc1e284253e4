pub mod Cut
pub mod Ahead
pub mod Packed
pub mod Written
pub mod Sets
pub mod Outside
pub mod Covers
pub mod Bridge
