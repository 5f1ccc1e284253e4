pub mod Arrivals
pub mod Suffices
pub mod Text
pub mod Printed
pub mod Writer
