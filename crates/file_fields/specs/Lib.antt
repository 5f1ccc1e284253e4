pub mod Fields
pub mod At
pub mod Walk
pub mod Faults
